-- A row compared with the rows that are kept.
use mathlib.Core.Path.{◌≡◌, sym, ap, ◌∙◌}
use Prim.Native.Nat.{◌≤◌}
use native.Mathlib.Numerals.{add-one}
use native.Mathlib.Omega.{arith}
use lib.ListN.{drop, drop_of_length-le}
use lib.Seq.{drop-cons}
use Rattle.std.specs.Prelude.{◌+◌, ◌<◌, ◌||◌}
use Rattle.definitions.specs.Basics.{ℕ, suc, Bool, true, false, List, any}
use Rattle.definitions.specs.Plans.{Row}
use Rattle.definitions.specs.Sheets.{same_beds}
use Rattle.row_list.specs.Rows.{whole_row, whole_rows}
use Rattle.row_list.specs.Laws.{rows_long, rows_at}

-- The rows that are kept, from row i on.
module _ (n : ℕ) (sheet : List ℕ) (row : Row) where
  abbrev comes_from : ℕ → Bool
  comes_from i = any (same_beds row) (drop i (whole_rows n sheet))

  module _ (i : ℕ) {answer : Bool} (asked : comes_from i ≡ answer) where
    -- The test of row i.
    module _ (h : i < n) (kept : Row) (read : kept ≡ whole_row sheet i) {test : Bool} (is : test ≡ same_beds row kept) where
      one_row : (test || comes_from (suc i)) ≡ answer
      one_row =
          ap (λ x. x || comes_from (suc i)) (is ∙ ap (same_beds row) (read ∙ rows_at n sheet i kept h))
          ∙ sym (ap (any (same_beds row)) (drop-cons (whole_rows n sheet) i kept (omega (arith, rows_long n sheet)))) ∙ asked

      pub row_found : test ≡ true → true ≡ answer
      row_found e = ap (λ x. x || comes_from (suc i)) (sym e) ∙ one_row

      pub row_other : test ≡ false → comes_from (i + 1) ≡ answer
      row_other e = rw add-one (ap (λ x. x || comes_from (suc i)) (sym e) ∙ one_row)

    pub rows_done : n ≤ i → false ≡ answer
    rows_done h = sym (ap (any (same_beds row)) (drop_of_length-le (whole_rows n sheet) {i = i} (omega (arith, rows_long n sheet)))) ∙ asked
