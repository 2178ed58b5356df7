-- A form without lists: its word, its fields by their kinds, one space before each, and its end.
use Rattle.std.proofs.Common.{sym, arith, ltb-true, ne_eqb, ◌^◌, ◌<◌, ◌≡◌, ◌∷◌, ◌++◌}
use Rattle.std.proofs.Math.Path.{ap}
use Rattle.theorems.specs.Numbers.{hyphen_reads}
use Rattle.std.specs.Prelude as Code
use Rattle.line_reader.specs.declared.Kind.{Kind}
use Rattle.line_reader.specs.declared.Kind.TheVariants.{Number, Optional}
use Rattle.scanner.specs.Answers.{mark, code_of, said_by}
use Rattle.scanner.specs.Words.{form_start}
use Rattle.scanner.specs.Tokens.{Form, token, gives, read}
use Rattle.definitions.specs.Basics.{ℕ, refl, Bool, true, false, cond, Option, none, some, option_map, bind, List, [], get_or, text, none_or}
use Rattle.definitions.specs.Limits.{digit_count, limits}
use Rattle.definitions.specs.Spelling.{spellable}
use Rattle.definitions.specs.Syntax.{Patient}
use Rattle.definitions.specs.Layout.{Reader, ◌>>=◌, give, whole, exactly, word, number, hyphen_or_number, region_line, patient_line, end_line}

-- A field by its kind.
unfoldable pub field : Kind → Reader ℕ ℕ
field Number = number
field Optional = do o ← hyphen_or_number; give (code_of o)

-- The fields that are left, after those of these values.
abbrev pub fields_left : List Kind → List ℕ → Form (List ℕ)
fields_left [] values = token (word ")\n") λ _. gives values
fields_left (k ∷ ks) values = token (word " ") λ _. token (field k) λ v. fields_left ks (values ++ v ∷ [])

abbrev pub form : List ℕ → List Kind → Form (List ℕ)
form word kinds = token (exactly (form_start word)) λ _. fields_left kinds []

-- The values of the fields of a line that has the form and nothing behind it.
unfoldable pub field_values : List ℕ → List Kind → List ℕ → Option (List ℕ)
field_values word kinds line = whole (read (form word kinds)) line

-- What a reader of a form answers.
abbrev pub values_read : Code.Option (List ℕ) → Option (List ℕ)
values_read Code.None = none
values_read (Code.Some values) = some values

-- One reader after another, and what is made of what the last one gives.
module _ {A B C : Type 0} where
  bind_bind : (o : Option A) (f : A → Option B) (g : B → Option C) → bind (bind o f) g ≡ bind o (λ a. bind (f a) g)
  unfolding bind
  bind_bind none f g = refl
  bind_bind (some a) f g = refl

  map_bind : (f : B → C) (o : Option A) (g : A → Option B) → option_map f (bind o g) ≡ bind o (λ a. option_map f (g a))
  unfolding bind
  map_bind f none g = refl
  map_bind f (some a) g = refl

module _ {A B : Type 0} where
  bind_some : (a : A) (f : A → Option B) → bind (some a) f ≡ f a
  unfolding bind
  bind_some a f = refl

  map_cond : (f : A → B) (t : Bool) (a : A) → option_map f (cond t (some a) none) ≡ cond t (some (f a)) none
  map_cond f true a = refl
  map_cond f false a = refl

-- The mark tells a hyphen from every number that a file can say.
pub number_unmarked : (n : ℕ) → spellable n ≡ true → n < mark
unfolding limits
number_unmarked n h = omega (arith, ltb-true n (10 ^ (limits digit_count).highest) h)

said_by_lem : (o : Option ℕ) → none_or spellable o ≡ true → said_by (code_of o) ≡ o
said_by_lem none h = refl
said_by_lem (some n) h = let l = number_unmarked n h in rw (ne_eqb n mark (λ e. omega arith))

module _ (xs : List ℕ) where
  -- What the definition reads, by the value of the field.
  number_by_value : number xs ≡ field Number xs
  unfolding field
  number_by_value = refl

  hyphen_by_value : hyphen_or_number xs ≡ (do v ← field Optional; give (said_by v)) xs
  unfolding field bind
  hyphen_by_value = go (hyphen_or_number xs) (λ p ys e. (hyphen_reads.only e).0)
    where
      go : (o : Option (Option ℕ × List ℕ)) → ((p : Option ℕ) (ys : List ℕ) → o ≡ some (p, ys) → none_or spellable p ≡ true)
          → o ≡ bind (bind {B = ℕ × List ℕ} o (λ r. some (code_of r.0, r.1))) (λ r. some (said_by r.0, r.1))
      go none h = refl
      go (some r) h = ap (λ p. some (p, r.1)) (sym (said_by_lem r.0 (h r.0 r.1 refl)))

-- The three forms, and what the values of their fields say.
abbrev pub region_said : List ℕ → ℕ × ℕ × ℕ
region_said values = (get_or values 0 0, get_or values 1 0, get_or values 2 0)

abbrev pub patient_said : List ℕ → Patient
patient_said values = record { clinic = get_or values 0 0; bed_count = get_or values 1 0; parent = said_by (get_or values 2 0); fixed_bed = said_by (get_or values 3 0) }

abbrev pub end_said : List ℕ → ℕ
end_said values = get_or values 0 0

module _ (xs : List ℕ) where
  pub region_form : whole region_line xs ≡ option_map region_said (field_values (text "region") (Number ∷ Number ∷ Number ∷ []) xs)
  unfolding region_line field_values
  region_form = simp (number_by_value, bind_bind, bind_some, map_bind, map_cond)

  pub patient_form : whole patient_line xs ≡ option_map patient_said (field_values (text "patient") (Number ∷ Number ∷ Optional ∷ Optional ∷ []) xs)
  unfolding patient_line field_values
  patient_form = simp (hyphen_by_value, number_by_value, bind_bind, bind_some, map_bind, map_cond)

  pub end_form : whole end_line xs ≡ option_map end_said (field_values (text "end") (Number ∷ []) xs)
  unfolding end_line field_values
  end_form = simp (number_by_value, bind_bind, bind_some, map_bind, map_cond)
