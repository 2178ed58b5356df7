-- Parts in brackets as they are written: each after the first has a space before it.
use Rattle.std.specs.Prelude.{◌≡◌, refl, ◌≤◌, drop}
use Rattle.std.proofs.Math.Path.{sym, ap}
use Rattle.std.proofs.Common.{◌∙◌, append_assoc, append-nil, add-one, arith, drop_of_length-le, drop-cons, ◌+◌, ◌<◌, ◌∷◌, ◌++◌}
use Rattle.definitions.specs.Basics.{ℕ, zero, suc, List, [], map, flat_map, flatten, length, get_or, text}
use Rattle.definitions.specs.Spelling.{bracketed, line}
use Rattle.text_writer.specs.Wrote.{Wrote, Left, none_yet, none_left, other_parts}

-- What stands before part i; the parts from part i on, each with what stands before it.
abbrev pub gap : ℕ → List ℕ
gap zero = []
gap (suc i) = text " "

abbrev pub apart : ℕ → List (List ℕ) → List ℕ
apart i [] = []
apart i (p ∷ ps) = gap i ++ (p ++ apart (suc i) ps)

-- After the first part each has a space; so parts in brackets are these between two bytes.
later_apart : (i : ℕ) (ps : List (List ℕ)) → apart (suc i) ps ≡ flat_map (λ q. 32 ∷ q) ps
unfolding flat_map
later_apart i [] = refl
later_apart i (p ∷ ps) = ap (λ (l : List ℕ). 32 ∷ (p ++ l)) (later_apart (suc i) ps)

pub bracketed_apart : (ps : List (List ℕ)) → bracketed ps ≡ flatten (text "(" ∷ apart 0 ps ∷ text ")" ∷ [])
unfolding flat_map flatten
bracketed_apart [] = refl
bracketed_apart (p ∷ ps) =
    ap (λ (l : List ℕ). 40 ∷ (p ++ (l ++ 41 ∷ []))) (sym (later_apart 0 ps)) ∙ ap (λ (l : List ℕ). 40 ∷ l) (sym (append_assoc p (apart 1 ps) (41 ∷ [])))

-- A form is its word with the fields behind it, between a bracket and the line's end.
pub form_apart : (word : List ℕ) (ps : List (List ℕ)) → line (word ∷ ps) ≡ flatten (text "(" ∷ word ∷ apart 1 ps ∷ text ")\n" ∷ [])
unfolding flatten
form_apart word ps =
    let fields = flat_map (λ (q : List ℕ). 32 ∷ q) ps in
    ap (λ (l : List ℕ). 40 ∷ l) (append_assoc word (fields ++ text ")") (text "\n")
    ∙ ap (λ (l : List ℕ). word ++ l) (append_assoc fields (text ")") (text "\n") ∙ ap (λ (l : List ℕ). l ++ text ")\n") (sym (later_apart 0 ps))))

-- The numbers that a loop gives to parts: b to the first, one more to each next.
pub record Numbering (b : ℕ) (number : ℕ → ℕ) : Type 0 where
  pub first : number 0 ≡ b
  pub next : (i : ℕ) → number (i + 1) ≡ suc (number i)

pub from_zero : Numbering 0 (λ i. i)
from_zero = record { first = refl; next = add-one }

pub from_part : (b : ℕ) → Numbering b (λ i. b + i)
from_part b = record { first = omega arith; next = λ i. omega arith }

-- A loop that writes the spellings of elements: those from element i on, each with the gap before it.
module _ {A : Type 0} (spell : A → List ℕ) {b : ℕ} {number : ℕ → ℕ} (numbering : Numbering b number) (xs : List A) where
  unfoldable pub apart_from : ℕ → List ℕ
  apart_from i = apart (number i) (map spell (drop i xs))

  -- All are left at first; element i comes next; after the last nothing is left.
  pub parts_yet : {out : List ℕ} {at : ℕ} → Left (apart b (map spell xs)) at out (apart_from 0 ∷ []) out at
  unfolding apart_from flatten
  parts_yet = none_yet _ (ap (λ (k : ℕ). apart k (map spell xs)) (sym numbering.first) ∙ sym (append-nil _))

  module _ (i : ℕ) {whole out now : List ℕ} {at place : ℕ} (left : Left whole at out (apart_from i ∷ []) now place) where
    pub part_left : (d : A) → i < length xs → Left whole at out (gap (number i) ∷ spell (get_or xs i d) ∷ apart_from (i + 1) ∷ []) now place
    unfolding apart_from flatten
    part_left d h =
        let k = number i in
        let x = get_or xs i d in
        let rest : apart (suc k) (map spell (drop (suc i) xs)) ≡ apart_from (i + 1) =
        (λ j. apart (sym (numbering.next i) j) (map spell (drop (sym (add-one i) j) xs))) in
        let first : apart k (map spell (drop i xs)) ≡ gap k ++ (spell x ++ apart_from (i + 1)) =
        ap (λ (l : List A). apart k (map spell l)) (drop-cons xs i d h) ∙ ap (λ (l : List ℕ). gap k ++ (spell x ++ l)) rest in
        other_parts (gap k ∷ spell x ∷ apart_from (i + 1) ∷ []) (append-nil _ ∙ first ∙ sym (ap (λ (l : List ℕ). gap k ++ (spell x ++ l)) (append-nil _))) left

    pub parts_done : length xs ≤ i → Wrote whole at out now place
    unfolding apart_from flatten
    parts_done h = none_left (other_parts [] (ap (λ (l : List A). apart (number i) (map spell l) ++ []) (drop_of_length-le xs {i = i} h)) left)

-- The same of a loop whose spellings have no gap before them: lines.
module _ {A : Type 0} (spell : A → List ℕ) (xs : List A) where
  unfoldable pub lines_from : ℕ → List ℕ
  lines_from i = flat_map spell (drop i xs)

  pub lines_yet : {out : List ℕ} {at : ℕ} → Left (flat_map spell xs) at out (lines_from 0 ∷ []) out at
  unfolding lines_from flatten
  lines_yet = none_yet _ (sym (append-nil _))

  module _ (i : ℕ) {whole out now : List ℕ} {at place : ℕ} (left : Left whole at out (lines_from i ∷ []) now place) where
    pub line_left : (d : A) → i < length xs → Left whole at out (spell (get_or xs i d) ∷ lines_from (i + 1) ∷ []) now place
    unfolding lines_from flatten flat_map
    line_left d h =
        let x = get_or xs i d in
        let first : flat_map spell (drop i xs) ≡ spell x ++ lines_from (i + 1) =
        ap (flat_map spell) (drop-cons xs i d h) ∙ ap (λ (k : ℕ). spell x ++ flat_map spell (drop k xs)) (sym (add-one i)) in
        other_parts (spell x ∷ lines_from (i + 1) ∷ []) (append-nil _ ∙ first ∙ sym (ap (λ (l : List ℕ). spell x ++ l) (append-nil _))) left

    pub lines_done : length xs ≤ i → Wrote whole at out now place
    unfolding lines_from flatten flat_map
    lines_done h = none_left (other_parts [] (ap (λ (l : List A). flat_map spell l ++ []) (drop_of_length-le xs {i = i} h)) left)
