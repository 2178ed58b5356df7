-- The rows kept so far, and the first occurrences of the rest, are the whole sheet.
use mathlib.Core.Path.{◌≡◌, refl, sym, ap, ap₂, ◌∙◌}
use mathlib.Core.Bool.{or_assoc, or_comm}
use mathlib.Core.Logic.{inl, inr}
use mathlib.Core.List.{append_assoc, append-nil, map-append}
use Prim.Native.Nat.{◌≤◌}
use native.Mathlib.Numerals.{add-one}
use native.Mathlib.Omega.{arith}
use Rattle.std.specs.Prelude.{◌+◌, ◌||◌, ◌∷◌, ◌++◌}
use Rattle.definitions.specs.Basics.{ℕ, Bool, true, false, cond, List, [], map, any, first_occurrences}
use Rattle.definitions.specs.Plans as Said
use Rattle.definitions.specs.Sheets.{same_beds}
use Rattle.lists.specs.Members.{◌∈◌, here, there, here_or_there, none_in_nil, in_append_cases}
use Rattle.partial_rows.specs.Padding.{unpadded, Padded, unpadded_same}
use Rattle.packed_rows.specs.declared.Row.{Row}
use Rattle.packed_rows.specs.Packed.{row_of}
use Rattle.row_list.specs.Rows.{whole_rows, Stored}
use Rattle.row_list.specs.Laws.{rows_before, rows_more}
use Rattle.sheets.specs.Steps.{with_new, Kept}

-- Of those that came before, only who they are counts, and not their order.
module _ {A : Type 0} (alike : A → A → Bool) where
  before_order : (s t xs : List A) → ((y : A) → any (alike y) s ≡ any (alike y) t) → first_occurrences alike s xs ≡ first_occurrences alike t xs
  before_order s t [] same = refl
  before_order s t (x ∷ xs) same =
      go (any (alike x) s) (any (alike x) t) (same x) (before_order s t xs same) (before_order (x ∷ s) (x ∷ t) xs (λ y. ap (λ b. alike y x || b) (same y)))
    where
      go : (a b : Bool) → a ≡ b → first_occurrences alike s xs ≡ first_occurrences alike t xs → first_occurrences alike (x ∷ s) xs ≡ first_occurrences alike (x ∷ t) xs
          → ◌≡◌ {A = List A} (elim a [ true ↦ first_occurrences alike s xs | false ↦ x ∷ first_occurrences alike (x ∷ s) xs ])
          (elim b [ true ↦ first_occurrences alike t xs | false ↦ x ∷ first_occurrences alike (x ∷ t) xs ])
      go true true e old new = old
      go false false e old new = ap {B = List A} (λ l. x ∷ l) new
      go true false e old new = cc
      go false true e old new = cc

-- A row that is tested last is tested as well as one that is tested first.
any_last : {A : Type 0} (f : A → Bool) (x : A) (l : List A) → any f (x ∷ l) ≡ any f (l ++ x ∷ [])
any_last f x [] = refl
any_last f x (y ∷ l) =
    sym (or_assoc (f x) (f y) (any f l)) ∙ ap (λ b. b || any f l) (or_comm (f x) (f y)) ∙ or_assoc (f y) (f x) (any f l) ∙ ap (λ b. f y || b) (any_last f x l)

-- The rows kept so far, and then the first occurrences of the rest.
abbrev pub sheet_from : List Said.Row → List Said.Row → List Said.Row
sheet_from rows rest = rows ++ first_occurrences same_beds rows rest

-- One more row, and no more.
pub from_next : (x : Said.Row) (rest rows : List Said.Row) → sheet_from rows (x ∷ rest) ≡ sheet_from (with_new x rows) rest
from_next x rest rows = go (any (same_beds x) rows)
  where
    go : (b : Bool) → rows ++ elim b [ true ↦ first_occurrences same_beds rows rest | false ↦ x ∷ first_occurrences same_beds (x ∷ rows) rest ]
        ≡ sheet_from (cond b rows (rows ++ x ∷ [])) rest
    go true = refl
    go false =
        ap (λ l. rows ++ x ∷ l) (before_order same_beds (x ∷ rows) (rows ++ x ∷ []) rest (λ y. any_last (same_beds y) x rows))
        ∙ sym (append_assoc rows (x ∷ []) (first_occurrences same_beds (rows ++ x ∷ []) rest))

pub from_done : (rows : List Said.Row) → sheet_from rows [] ≡ rows
from_done rows = append-nil rows

-- A row that has come before, and one that has not.
module _ (n : ℕ) (row : Row) (sheet : List ℕ) {come : Bool} (is : come ≡ any (same_beds (row_of row)) (whole_rows n sheet)) where
  decided : {b : Bool} → come ≡ b → with_new (row_of row) (whole_rows n sheet) ≡ cond b (whole_rows n sheet) (whole_rows n sheet ++ row_of row ∷ [])
  decided e = ap (λ b. cond b (whole_rows n sheet) (whole_rows n sheet ++ row_of row ∷ [])) (sym is ∙ e)

  pub kept_old : come ≡ true → Kept n row sheet sheet n
  kept_old e = record { count = omega arith; rows = sym (decided e); long = refl }

  pub kept_new : (after : List ℕ) → Stored n row sheet after → come ≡ false → Kept n row sheet after (n + 1)
  kept_new after s e =
      record {
        count = omega arith;
        rows = rw add-one (rows_more n after ∙ ap₂ (λ l (z : Said.Row). l ++ z ∷ []) (rows_before n row sheet after s) s.row ∙ sym (decided e));
        long = s.long;
      }

-- Padded rows with one more are padded, and whether it is kept does not depend on what follows the first k beds.
module _ (k : ℕ) (few : k ≤ 32) (x : Said.Row) (padded : Padded k x) where
  pub new_padded : (rows : List Said.Row) → ((z : Said.Row) → z ∈ rows → Padded k z) → (z : Said.Row) → z ∈ with_new x rows → Padded k z
  new_padded rows all z = go (any (same_beds x) rows)
    where
      go : (b : Bool) → z ∈ cond b rows (rows ++ x ∷ []) → Padded k z
      go true m = all z m
      go false m = elim (in_append_cases rows m) [
        | inl t ↦ all z t
        | inr t ↦ elim (here_or_there t) [ inl e ↦ rw e padded | inr u ↦ absurd (none_in_nil u) ]
      ]

  any_unpadded : (rows : List Said.Row) → ((z : Said.Row) → z ∈ rows → Padded k z) → any (same_beds (unpadded k x)) (map (unpadded k) rows) ≡ any (same_beds x) rows
  any_unpadded [] all = refl
  any_unpadded (y ∷ rows) all = ap₂ ◌||◌ (unpadded_same k x y few padded (all y (here refl))) (any_unpadded rows (λ z m. all z (there m)))

  pub new_unpadded : (rows : List Said.Row) → ((z : Said.Row) → z ∈ rows → Padded k z) → map (unpadded k) (with_new x rows) ≡ with_new (unpadded k x) (map (unpadded k) rows)
  new_unpadded rows all =
      go (any (same_beds x) rows) ∙ ap (λ b. cond b (map (unpadded k) rows) (map (unpadded k) rows ++ unpadded k x ∷ [])) (sym (any_unpadded rows all))
    where
      go : (b : Bool) → map (unpadded k) (cond b rows (rows ++ x ∷ [])) ≡ cond b (map (unpadded k) rows) (map (unpadded k) rows ++ unpadded k x ∷ [])
      go true = refl
      go false = map-append (unpadded k) rows (x ∷ [])
