-- A form as its tokens, one after the other, and how far a line has been read by it.
use Rattle.std.proofs.Common.{ap, ◌∙◌, drop_of_length-le, drop-cons, ◌≡◌}
use Rattle.std.specs.Prelude.{◌≤◌, ◌<◌, drop}
use Rattle.definitions.specs.Basics.{ℕ, true, false, Option, none, some, bind, List, is_empty, length}
use Rattle.definitions.specs.Layout.{Reader, ◌>>=◌, give, whole}
use Rattle.scanner.specs.Answers.{ReadAt, there, missing}

-- A token is read, and what it gives decides the tokens after it; at the end the form gives what the line says.
pub data Form (B : Type 0) : Type 1 where
  token : {A : Type 0} → Reader ℕ A → (A → Form B) → Form B
  gives : B → Form B

abbrev pub read : {B : Type 0} → Form B → Reader ℕ B
read (token first rest) = first >>= (λ a. read (rest a))
read (gives b) = give b

-- What a line says is what the tokens that are left give from a place on.
pub record Left {B : Type 0} (line : List ℕ) (said : Option B) (form : Form B) (at : ℕ) : Type 0 where
  pub says : said ≡ whole (read form) (drop at line)

module _ {A B : Type 0} {line : List ℕ} {said : Option B} {first : Reader ℕ A} {rest : A → Form B} {at : ℕ} (l : Left line said (token first rest) at)
    {found : Option (A × ℕ)} (h : ReadAt first line at found) where
  pub token_there : {a : A} {next : ℕ} → found ≡ some (a, next) → Left line said (rest a) next
  unfolding bind
  token_there e = record { says = l.says ∙ rw (there h e) }

  pub token_missing : found ≡ none → said ≡ none
  unfolding bind
  token_missing e = l.says ∙ rw (missing h e)

-- Bytes stand behind a place, or none do.
module _ (s : List ℕ) (n : ℕ) where
  pub more_left : n < length s → is_empty (drop n s) ≡ false
  more_left h = ap is_empty (drop-cons s n 0 h)

  pub nothing_left : length s ≤ n → is_empty (drop n s) ≡ true
  nothing_left h = ap is_empty (drop_of_length-le s h)

-- All tokens are read: the line is longer, or that was the whole line.
module _ {B : Type 0} {line : List ℕ} {said : Option B} {b : B} {at : ℕ} (l : Left line said (gives b) at) where
  pub line_longer : at < length line → said ≡ none
  unfolding bind
  line_longer h = l.says ∙ rw (more_left line at h)

  pub line_whole : length line ≤ at → said ≡ some b
  unfolding bind
  line_whole h = l.says ∙ rw (nothing_left line at h)
