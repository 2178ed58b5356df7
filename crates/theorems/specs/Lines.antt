-- The lines of a file: together they are the file again, and a file made of whole lines is cut into them.
use Rattle.std.proofs.Common.{sym, ap, ◌∙◌, append_assoc, append-nil, arith, length-append, ne_eqb, ◌+◌, ◌<◌, ◌≡◌, ◌&&◌, ◌||◌, ◌∷◌, ◌++◌}
use Rattle.std.proofs.lemmas.Bool.{false≢true}
use Rattle.std.specs.Prelude.{◌≢◌}
use Rattle.std.proofs.Math.ListN.{get_or-append}
use Prim.Native.Char.{code}
use Rattle.definitions.specs.Basics.{ℕ, suc, refl, Bool, true, false, List, [], map, flatten, length}
use Rattle.definitions.specs.Basics.{get_or, eqb, leb, text, every, contains}
use Rattle.definitions.specs.Layout.{is_digit, onto_first, lines}
use Rattle.lists.specs.Tests.{both}
use Rattle.lists.specs.Every.{every_at, every_append, every_weaken}

-- The lines of a file, one after the other, are the file.
flatten_first : (b : ℕ) (ls : List (List ℕ)) → flatten (onto_first b ls) ≡ b ∷ flatten ls
unfolding flatten
flatten_first b [] = refl
flatten_first b (l ∷ ls) = refl

pub flatten_lines : (file : List ℕ) → flatten (lines file) ≡ file
unfolding flatten
flatten_lines [] = refl
flatten_lines (b ∷ file) = by (eqb b 10) refl (flatten_lines file)
  where
    by : (t : Bool) → eqb b 10 ≡ t → flatten (lines file) ≡ file → flatten (lines (b ∷ file)) ≡ b ∷ file
    by true e before = rw (e, lines) (ap (λ (l : List ℕ). b ∷ l) before)
    by false e before = rw (e, lines) (flatten_first b (lines file) ∙ ap (λ (l : List ℕ). b ∷ l) before)

-- The bytes of a form: digits, brackets, spaces, hyphens and small letters. A file has line ends too.
abbrev pub in_form : ℕ → Bool
in_form b = is_digit b || contains (text "() -") b || (leb (code "a") b && leb b (code "z"))

abbrev pub in_file : ℕ → Bool
in_file b = in_form b || eqb b 10

form_not_end : (b : ℕ) → in_form b ≡ true → eqb b 10 ≡ false
form_not_end b h = ne_eqb b 10 (λ e. false≢true (ap in_form (sym e) ∙ h))

-- A whole line: the bytes of a form, then a line end.
pub record Line (l : List ℕ) : Type 0 where
  pub form : List ℕ
  pub is : l ≡ form ++ 10 ∷ []
  pub bytes : every in_form form ≡ true

abbrev pub AllLines : List (List ℕ) → Type 0
AllLines [] = Unit {0}
AllLines (l ∷ ls) = Line l × AllLines ls

pub all_map : {A : Type 0} (spell : A → List ℕ) → ((a : A) → Line (spell a)) → (l : List A) → AllLines (map spell l)
all_map spell each [] = tt
all_map spell each (a ∷ l) = (each a, all_map spell each l)

pub all_append : (ls ms : List (List ℕ)) → AllLines ls → AllLines ms → AllLines (ls ++ ms)
all_append [] ms h g = g
all_append (l ∷ ls) ms h g = (h.0, all_append ls ms h.1 g)

-- A file that begins with whole lines is cut into them and the lines of the rest.
lines_cons : (l file : List ℕ) → every in_form l ≡ true → lines (l ++ 10 ∷ file) ≡ (l ++ 10 ∷ []) ∷ lines file
lines_cons [] file h = refl
lines_cons (b ∷ l) file h =
    let (now, later) = both (in_form b) h in
    let not_end : lines (b ∷ (l ++ 10 ∷ file)) ≡ onto_first b (lines (l ++ 10 ∷ file)) = rw (form_not_end b now, lines) in
    not_end ∙ ap (onto_first b) (lines_cons l file later)

pub lines_flatten : (ls : List (List ℕ)) (file : List ℕ) → AllLines ls → lines (flatten ls ++ file) ≡ ls ++ lines file
unfolding flatten
lines_flatten [] file h = refl
lines_flatten (l ∷ ls) file (now, later) =
    let rest = flatten ls ++ file in
    ap lines (append_assoc l (flatten ls) file ∙ ap (λ (k : List ℕ). k ++ rest) now.is ∙ append_assoc now.form (10 ∷ []) rest)
    ∙ lines_cons now.form rest now.bytes
    ∙ λ i. sym now.is i ∷ lines_flatten ls file later i

-- The bytes of whole lines are those that a file may have.
pub lines_bytes : (ls : List (List ℕ)) → AllLines ls → every in_file (flatten ls) ≡ true
unfolding flatten
lines_bytes [] h = refl
lines_bytes (l ∷ ls) (now, later) =
    let form = every_weaken in_form in_file (λ b h. ap (λ (t : Bool). t || eqb b 10) h) now.form now.bytes in
    every_append in_file l (flatten ls) (rw now.is (every_append in_file now.form (10 ∷ []) form refl)) (lines_bytes ls later)

-- Whole lines end in a line end, and within a line there is none.
pub lines_end : (l : List ℕ) (ls : List (List ℕ)) → AllLines (l ∷ ls) → (before : List ℕ) × (flatten (l ∷ ls) ≡ before ++ 10 ∷ [])
unfolding flatten
lines_end l [] (now, later) = (now.form, append-nil l ∙ now.is)
lines_end l (m ∷ ls) (now, later) =
    let (before, is) = lines_end m ls later in
    (l ++ before, ap (λ (r : List ℕ). l ++ r) is ∙ sym (append_assoc l before (10 ∷ [])))

pub line_inside : {l : List ℕ} → Line l → (i : ℕ) → suc i < length l → get_or l i 0 ≢ 10
line_inside {l} line i h e =
    let long : length l ≡ length line.form + 1 = ap length line.is ∙ length-append line.form (10 ∷ []) in
    let in_form_lem = get_or-append line.form (10 ∷ []) 0 i (omega arith) in
    let at : get_or l i 0 ≡ get_or line.form i 0 = ap (λ (k : List ℕ). get_or k i 0) line.is ∙ in_form_lem in
    false≢true (ap in_form (sym e ∙ at) ∙ every_at in_form line.form i 0 (omega arith) line.bytes)
