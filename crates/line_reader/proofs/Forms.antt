-- A form read field by field: what is left to read is the whole line.
use mathlib.Core.Path.{◌≡◌, refl, sym, ap, ◌∙◌}
use mathlib.Core.List.{List, [], ◌∷◌, ◌++◌}
use Prim.Native.Nat.{ℕ, suc, ◌+◌, ◌≤◌, ◌<◌}
use native.Mathlib.Numerals.{add-one}
use native.Mathlib.Omega.{arith}
use lib.ListN.{length, get_or, set, take, drop, length-set, drop_of_length-le}
use lib.Seq.{drop-cons, take_all, take-suc-set}
use Rattle.definitions.specs.Basics.{Option, none, some, option_map, bind}
use Rattle.definitions.specs.Layout.{exactly, word, number, hyphen_or_number}
use Rattle.scanner.specs.Words.{form_start}
use Rattle.scanner.specs.Answers.{ReadAt, there, missing, code_of}
use Rattle.scanner.specs.Tokens.{Left, token, gives, token_there, token_missing, line_longer, line_whole}
use Rattle.line_reader.specs.declared.Kind.{Kind}
use Rattle.line_reader.specs.declared.Kind.TheVariants.{Number, Optional}
use Rattle.line_reader.specs.Forms.{field, fields_left, form, field_values}

-- A field by its kind.
module _ {k : Kind} {s : List ℕ} {at : ℕ} where
  pub number_field : {o : Option (ℕ × ℕ)} → k ≡ Number → ReadAt number s at o → ReadAt (field k) s at o
  unfolding field
  number_field e h = rw e h

  module _ {o : Option (Option ℕ × ℕ)} (e : k ≡ Optional) (h : ReadAt hyphen_or_number s at o) where
    pub hyphen_field_missing : o ≡ none → ReadAt (field k) s at none
    unfolding field bind
    hyphen_field_missing q = record { says = rw (e, missing h q); ahead = tt }

    pub hyphen_field : {p : Option ℕ} {v next : ℕ} → o ≡ some (p, next) → v ≡ code_of p → ReadAt (field k) s at (some (v, next))
    unfolding field bind
    hyphen_field q is = let a = rw q at h in record { says = rw (e, is, there h q); ahead = a.ahead }

-- The first i fields of a form are read and have these values; the place is the one after them.
pub record FieldsRead (n : ℕ) (line opening : List ℕ) (kinds : List Kind) (values : List ℕ) (at i : ℕ) : Type 0 where
  pub few : i ≤ n
  pub count : length kinds ≡ n
  pub wide : length values ≡ n
  pub left : Left line (field_values opening kinds line) (fields_left (drop i kinds) (take i values)) at

-- The opening word is there, or it is missing.
module _ {line : List ℕ} (opening : List ℕ) (kinds : List Kind) {p : Option (Unit {0} × ℕ)} (h : ReadAt (exactly (form_start opening)) line 0 p) where
  form_left : Left line (field_values opening kinds line) (form opening kinds) 0
  unfolding field_values
  form_left = record { says = refl }

  pub opening_there : {n : ℕ} {values : List ℕ} {start : ℕ} → length kinds ≡ n → length values ≡ n → p ≡ some (tt, start) → FieldsRead n line opening kinds values start 0
  opening_there count wide e = record { few = omega arith; count = count; wide = wide; left = token_there form_left h e }

  pub opening_missing : p ≡ none → none ≡ field_values opening kinds line
  opening_missing e = sym (token_missing form_left h e)

module _ {n : ℕ} {line opening : List ℕ} {kinds : List Kind} {values : List ℕ} {at i : ℕ} (f : FieldsRead n line opening kinds values at i) {p : Option (Unit {0} × ℕ)} where
  -- Another field: a space, and its value.
  module _ (more : i < n) (h : ReadAt (word " ") line at p) where
    next_left : Left line (field_values opening kinds line)
        (token (word " ") λ _. token (field (get_or kinds i Number)) λ v. fields_left (drop (suc i) kinds) (take i values ++ v ∷ [])) at
    next_left = rw (drop-cons kinds i Number (omega (arith, f.count))) at f.left

    pub space_missing : p ≡ none → none ≡ field_values opening kinds line
    space_missing e = sym (token_missing next_left h e)

    module _ {begin : ℕ} (e : p ≡ some (tt, begin)) {o : Option (ℕ × ℕ)} (k : ReadAt (field (get_or kinds i Number)) line begin o) where
      pub field_missing : o ≡ none → none ≡ field_values opening kinds line
      field_missing q = sym (token_missing (token_there next_left h e) k q)

      pub field_there : {v next : ℕ} → o ≡ some (v, next) → FieldsRead n line opening kinds (set values i v) next (i + 1)
      field_there {v} q = record {
        few = omega arith;
        count = f.count;
        wide = length-set values i v ∙ f.wide;
        left = rw (add-one, take-suc-set values i v (omega (arith, f.wide, f.count))) (token_there (token_there next_left h e) k q);
      }

  -- All fields are read: the end of the form, and the end of the line.
  module _ (all : n ≤ i) (r : ReadAt (word ")\n") line at p) where
    end_left : Left line (field_values opening kinds line) (token (word ")\n") λ _. gives values) at
    end_left =
        let none_left : length kinds ≤ i = omega (arith, f.count) in
        rw (drop_of_length-le kinds none_left, take_all i values (omega (arith, f.wide, f.count))) at f.left

    pub end_missing : p ≡ none → none ≡ field_values opening kinds line
    end_missing e = sym (token_missing end_left r e)

    module _ {end : ℕ} (e : p ≡ some (tt, end)) where
      pub form_there : length line ≤ end → some values ≡ field_values opening kinds line
      form_there h = sym (line_whole (token_there end_left r e) h)

      pub form_longer : end < length line → none ≡ field_values opening kinds line
      form_longer h = sym (line_longer (token_there end_left r e) h)

-- What a line says, by the values of its fields.
module _ {B : Type 0} (f : List ℕ → B) {said : Option B} {o : Option (List ℕ)} (is : said ≡ option_map f o) where
  pub said_there : (values : List ℕ) → some values ≡ o → some (f values) ≡ said
  said_there values h = ap (option_map f) h ∙ sym is

  pub said_missing : none ≡ o → none ≡ said
  said_missing h = ap (option_map f) h ∙ sym is
