-- Printed lines in the parts that are written one after another.
use Rattle.std.specs.Prelude.{◌≡◌}
use Rattle.std.proofs.Common.{sym, ap, ◌∙◌, append-nil, ◌∷◌, ◌++◌}
use Rattle.definitions.specs.Basics.{ℕ, List, [], map, flat_map, flatten, length, text}
use Rattle.definitions.specs.Spelling.{decimal, bracketed, line}
use Rattle.definitions.specs.Plans.{Row}
use Rattle.definitions.specs.Output.{printed_row, printed_rows}
use Rattle.theorems.specs.Forms.{line_spelt}
use Rattle.row_printer.specs.Printing.{counted}

-- The line of a refusal, and that of a row.
pub refusal_parts : (q : ℕ) → line (text "refused" ∷ decimal q ∷ []) ≡ flatten (text "(refused " ∷ decimal q ∷ text ")\n" ∷ [])
unfolding flatten
refusal_parts q = sym (append-nil (line (text "refused" ∷ decimal q ∷ []))) ∙ line_spelt (text "refused") (decimal q ∷ []) []

pub row_parts : (row : Row)
    → printed_row row ≡ flatten (text "(row " ∷ decimal row.cost ∷ text " " ∷ bracketed (map decimal row.beds) ∷ text ")\n" ∷ [])
unfolding printed_row flatten
row_parts row = sym (append-nil (printed_row row)) ∙ line_spelt (text "row") (decimal row.cost ∷ bracketed (map decimal row.beds) ∷ []) []

-- A list and a sheet: the title up to the row count, and what follows it.
pub list_parts : (rows : List Row) → printed_rows (text "list" ∷ []) rows ≡ flatten (text "(list " ∷ counted rows ∷ [])
unfolding printed_rows counted flatten
list_parts rows =
    line_spelt (text "list") (decimal (length rows) ∷ []) (flat_map printed_row rows)
    ∙ ap (λ (l : List ℕ). text "(list " ++ l) (sym (append-nil (counted rows)))

pub sheet_parts : (c : ℕ) (rows : List Row)
    → printed_rows (text "sheet" ∷ decimal c ∷ []) rows ≡ flatten (text "(sheet " ∷ decimal c ∷ text " " ∷ counted rows ∷ [])
unfolding printed_rows counted flatten
sheet_parts c rows =
    line_spelt (text "sheet") (decimal c ∷ decimal (length rows) ∷ []) (flat_map printed_row rows)
    ∙ ap (λ (l : List ℕ). text "(sheet " ++ (decimal c ++ (text " " ++ l))) (sym (append-nil (counted rows)))
