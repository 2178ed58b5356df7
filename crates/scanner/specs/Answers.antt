-- What each answer says, in the terms of the definition's readers.
use Rattle.std.proofs.Common.{sym, ap, ◌∙◌, ◌≡◌}
use Rattle.std.specs.Prelude.{◌≤◌, max, drop}
use Rattle.definitions.specs.Basics.{ℕ, Bool, true, false, cond, Option, none, some, option_map, List, length, eqb}
use Rattle.definitions.specs.Layout.{Reader}
use Rattle.std.specs.Prelude as Code
use Rattle.scanner.specs.declared.ItemStep.{ItemStep}
use Rattle.scanner.specs.declared.ItemStep.TheVariants.{Next, Closed}

-- What was read and the place after it, as a reader of s says it.
abbrev pub resting : {A : Type 0} → List ℕ → Option (A × ℕ) → Option (A × List ℕ)
resting s found = option_map (λ r. (r.0, drop r.1 s)) found

-- The place after what was read lies ahead, and in the slice unless the reading began behind its end.
abbrev pub Ahead : {A : Type 0} → List ℕ → ℕ → Option (A × ℕ) → Type 0
Ahead s at none = Unit
Ahead s at (some r) = (at ≤ r.1) × (r.1 ≤ max at (length s))

-- What is found at a place is what the definition's reader gives there.
pub record ReadAt {A : Type 0} (reader : Reader ℕ A) (s : List ℕ) (at : ℕ) (found : Option (A × ℕ)) : Type 0 where
  pub says : resting s found ≡ reader (drop at s)
  pub ahead : Ahead s at found

-- What was found, said another way.
pub read_as : {A : Type 0} {reader : Reader ℕ A} {s : List ℕ} {at : ℕ} {found other : Option (A × ℕ)} → found ≡ other → ReadAt reader s at found → ReadAt reader s at other
read_as e h = rw e at h

-- What the reader gives there, by what was found.
module _ {A : Type 0} {reader : Reader ℕ A} {s : List ℕ} {at : ℕ} {found : Option (A × ℕ)} (h : ReadAt reader s at found) where
  pub there : {a : A} {next : ℕ} → found ≡ some (a, next) → reader (drop at s) ≡ some (a, drop next s)
  there e = sym h.says ∙ ap (resting s) e

  pub missing : found ≡ none → reader (drop at s) ≡ none
  missing e = sym h.says ∙ ap (resting s) e

-- What an answer of the code says in the definitions' words: the place after what was passed, or a value with it.
abbrev pub passed : Code.Option ℕ → Option (Unit {0} × ℕ)
passed Code.None = none
passed (Code.Some next) = some (tt, next)

abbrev pub number_read : Code.Option (ℕ × ℕ) → Option (ℕ × ℕ)
number_read Code.None = none
number_read (Code.Some r) = some r

abbrev pub optional : Code.Option ℕ → Option ℕ
optional Code.None = none
optional (Code.Some v) = some v

-- Such a field as one number, of which the largest stands for a hyphen; what such a number says.
abbrev pub mark : ℕ
mark = 0xffff_ffff

abbrev pub code_of : Option ℕ → ℕ
code_of none = mark
code_of (some n) = n

abbrev pub said_by : ℕ → Option ℕ
said_by code = cond (eqb code mark) none (some code)

abbrev pub entry_read : Code.Option (Code.Option ℕ × ℕ) → Option (Option ℕ × ℕ)
entry_read Code.None = none
entry_read (Code.Some r) = some (optional r.0, r.1)

-- Whether another item follows.
abbrev pub step_read : Code.Option ItemStep → Option (Bool × ℕ)
step_read Code.None = none
step_read (Code.Some (Next next)) = some (true, next)
step_read (Code.Some (Closed next)) = some (false, next)
