-- What is left of a list's rows, one by one.
use mathlib.Core.Path.{◌≡◌, sym, ap, ◌∙◌}
use mathlib.Core.List.{append_assoc, append-nil}
use native.Mathlib.Numerals.{add-one}
use native.Mathlib.Omega.{arith}
use Prim.Native.Nat.{◌≤◌}
use lib.ListN.{drop, drop_of_length-le}
use Rattle.std.specs.Prelude.{◌+◌, ◌<◌, ◌∷◌, ◌++◌}
use Rattle.definitions.specs.Basics.{ℕ, suc, List, [], map, flat_map, flatten, text, take}
use Rattle.definitions.specs.Spelling.{decimal, bracketed}
use Rattle.definitions.specs.Plans.{Row}
use Rattle.definitions.specs.Output.{printed_row}
use Rattle.partial_rows.specs.Padding.{unpadded}
use Rattle.packed_rows.specs.declared.Row as Code
use Rattle.packed_rows.specs.Packed.{packed_beds, row_of}
use Rattle.row_list.specs.Rows.{row_in, rows_in}
use Rattle.row_list.specs.Laws.{unpadded_long, unpadded_from}
use Rattle.text_writer.specs.Wrote.{Wrote, Left, none_left, other_parts}
use Rattle.row_printer.specs.Printing.{counted}
use Rattle.row_printer.specs.Lines.{row_parts}

-- The line of a row whose beds were taken out of its words.
pub unpadded_row_parts : (v : ℕ) (row : Code.Row) (beds : List ℕ) → beds ≡ packed_beds row.words
    → printed_row (unpadded v (row_of row)) ≡ flatten (text "(row " ∷ decimal row.cost ∷ text " " ∷ bracketed (map decimal (take v beds)) ∷ text ")\n" ∷ [])
unpadded_row_parts v row beds e =
    row_parts (unpadded v (row_of row))
    ∙ ap (λ (l : List ℕ). flatten (text "(row " ∷ decimal row.cost ∷ text " " ∷ bracketed (map decimal (take v l)) ∷ text ")\n" ∷ [])) (sym e)

-- The rows of an area from row i on.
module _ (v n : ℕ) (list : List ℕ) where
  unfoldable pub rows_from : ℕ → List ℕ
  rows_from i = flat_map printed_row (drop i (rows_in v n list))

  -- The count, the line's end, and all rows.
  pub counted_parts : counted (rows_in v n list) ≡ flatten (decimal n ∷ text ")\n" ∷ rows_from 0 ∷ [])
  unfolding counted flatten rows_from
  counted_parts =
      ap (λ (k : ℕ). decimal k ++ (text ")\n" ++ rows_from 0)) (unpadded_long v n list)
      ∙ ap (λ (l : List ℕ). decimal n ++ (text ")\n" ++ l)) (sym (append-nil (rows_from 0)))

  module _ (i : ℕ) {whole out now : List ℕ} {at place : ℕ} (left : Left whole at out (rows_from i ∷ []) now place) where
    -- Row i is next; after row n - 1 nothing is left.
    pub row_left : i < n → Left whole at out (printed_row (row_in v list i) ∷ rows_from (i + 1) ∷ []) now place
    unfolding rows_from flatten flat_map
    row_left h =
        let row = row_in v list i in
        rw (add-one i) (other_parts (printed_row row ∷ rows_from (suc i) ∷ [])
        (ap (λ (l : List Row). flat_map printed_row l ++ []) (unpadded_from v n list i h) ∙ append_assoc (printed_row row) (rows_from (suc i)) []) left)

    pub rows_done : n ≤ i → Wrote whole at out now place
    unfolding rows_from flatten flat_map
    rows_done h =
        let none : drop i (rows_in v n list) ≡ [] = drop_of_length-le (rows_in v n list) {i = i} (omega (arith, unpadded_long v n list)) in
        none_left (other_parts [] (ap (λ (l : List Row). flat_map printed_row l ++ []) none) left)
