-- The layout: from the bytes of a file to what it says, or none where some byte is not what a form has in its place.
use Prim.Native.String.{String}
use Prim.Native.Char.{code}
use Rattle.std.specs.Prelude.{◌+◌, ◌-◌, ◌*◌, ◌&&◌, ◌∷◌}
use Rattle.definitions.specs.Basics.{ℕ, Bool, true, false, not, cond, Option, none, some, bind, or_else}
use Rattle.definitions.specs.Basics.{option_map, List, [], length, eqb, leb, text, is_empty, on_all}
use Rattle.definitions.specs.Limits.{Field, digit_count, within}
use Rattle.definitions.specs.Syntax.{Patient, Table, Region}

-- A reader takes something from the front of a list, of bytes or of lines: what it read and what stands after it, or none.
abbrev pub Reader : Type 0 → Type 0 → Type 0
Reader I A = List I → Option (A × List I)

-- One reader and then another that may use what was read: this is what `do` stands for below.
infixl 20 ◌>>=◌
infixl 20 ◌>>◌
abbrev pub ◌>>=◌ : {I A B : Type 0} → Reader I A → (A → Reader I B) → Reader I B
(first >>= next) xs = bind (first xs) (λ r. next r.0 r.1)

abbrev pub ◌>>◌ : {I A B : Type 0} → Reader I A → Reader I B → Reader I B
first >> next = first >>= (λ _. next)

-- Read nothing, and give a value if there is one.
abbrev pub give_if : {I A : Type 0} → Option A → Reader I A
give_if o xs = option_map (λ a. (a, xs)) o

abbrev pub give : {I A : Type 0} → A → Reader I A
give a = give_if (some a)

-- What a reader gives where it leaves nothing over.
abbrev pub whole : {I A : Type 0} → Reader I A → List I → Option A
whole reader xs = bind (reader xs) (λ r. cond (is_empty r.1) (some r.0) none)

-- One element, if the function takes it.
abbrev pub one : {I A : Type 0} → (I → Option A) → Reader I A
one f [] = none
one f (x ∷ xs) = give_if (f x) xs

-- The elements at the front, as far as the function takes them: perhaps none, perhaps all.
abbrev pub many : {I A : Type 0} → (I → Option A) → Reader I (List A)
many f [] = give [] []
many f (x ∷ xs) = elim (f x) [ none ↦ give [] (x ∷ xs) | some a ↦ bind (many f xs) (λ r. give (a ∷ r.0) r.1) ]

-- A byte, if it passes the test.
abbrev pub passing : (ℕ → Bool) → ℕ → Option ℕ
passing f b = cond (f b) (some b) none

-- Exactly these bytes; exactly this text.
abbrev pub exactly : List ℕ → Reader ℕ (Unit {0})
exactly [] = give tt
exactly (b ∷ bs) = one (passing (eqb b)) >> exactly bs

abbrev pub word : String → Reader ℕ (Unit {0})
word s = exactly (text s)

abbrev pub is_digit : ℕ → Bool
is_digit b = leb (code "0") b && leb b (code "9")

abbrev pub no_leading_zero : List ℕ → Bool
no_leading_zero [] = true
no_leading_zero (d ∷ []) = true
no_leading_zero (d ∷ e ∷ ds) = not (eqb d (code "0"))

-- The value of v with more digits after it.
abbrev pub value_from : ℕ → List ℕ → ℕ
value_from v [] = v
value_from v (d ∷ ds) = value_from (v * 10 + (d - code "0")) ds

-- A number is 1 to 7 decimal digits with no leading zero except `0` itself.
abbrev pub number_of : List ℕ → Option ℕ
number_of ds = cond (within digit_count (length ds) && no_leading_zero ds) (some (value_from 0 ds)) none

unfoldable pub number : Reader ℕ ℕ
number = do ds ← many (passing is_digit); give_if (number_of ds)

-- A hyphen, which is none, or a number.
unfoldable pub hyphen_or_number : Reader ℕ (Option ℕ)
hyphen_or_number bs = or_else ((do word "-"; give none) bs) ((do n ← number; give (some n)) bs)

-- A byte put in front of the first of some parts.
abbrev pub onto_first : ℕ → List (List ℕ) → List (List ℕ)
onto_first b [] = (b ∷ []) ∷ []
onto_first b (p ∷ ps) = (b ∷ p) ∷ ps

-- Bytes cut at each space. Two spaces in a row have an empty piece between them, which is no item.
abbrev pub pieces : List ℕ → List (List ℕ)
pieces [] = [] ∷ []
pieces (b ∷ bs) = elim (eqb b (code " ")) [ true ↦ [] ∷ pieces bs | false ↦ onto_first b (pieces bs) ]

-- Bytes cut after each line end, byte 10. What stands after the last line end is a line without one, which has no form.
abbrev pub lines : List ℕ → List (List ℕ)
lines [] = []
lines (b ∷ bs) = elim (eqb b 10) [ true ↦ (b ∷ []) ∷ lines bs | false ↦ onto_first b (lines bs) ]

-- One or more items in brackets, single spaces between them.
unfoldable pub items : {A : Type 0} → Reader ℕ A → Reader ℕ (List A)
items item = do word "("; inside ← many (passing (λ b. not (eqb b (code ")")))); word ")"; give_if (on_all (whole item) (pieces inside))

-- The four forms, each with its line end.
unfoldable pub region_line : Reader ℕ (ℕ × ℕ × ℕ)
region_line = do word "(region "; v ← number; word " "; t ← number; word " "; m ← number; word ")\n"; give (v, t, m)

unfoldable pub patient_line : Reader ℕ Patient
patient_line = do
  word "(patient "
  c ← number
  word " "
  d ← number
  word " "
  p ← hyphen_or_number
  word " "
  b ← hyphen_or_number
  word ")\n"
  give (record { clinic = c; bed_count = d; parent = p; fixed_bed = b })

unfoldable pub table_line : Reader ℕ Table
table_line = do word "(cost "; ss ← items number; word " "; es ← items hyphen_or_number; word ")\n"; give (record { members = ss; entries = es })

unfoldable pub end_line : Reader ℕ ℕ
end_line = do word "(end "; n ← number; word ")\n"; give n

-- The lines in their order. Patient lines and table lines may be any number, or none.
unfoldable pub region_lines : Reader (List ℕ) Region
region_lines = do
  (v, t, m) ← one (whole region_line)
  patients ← many (whole patient_line)
  tables ← many (whole table_line)
  n ← one (whole end_line)
  give (record { patient_count = v; table_count = t; plans_wanted = m; patients = patients; tables = tables; stated_sum = n })

-- What a file says; nothing stands after its last line.
unfoldable pub layout : List ℕ → Option Region
layout file = whole region_lines (lines file)
