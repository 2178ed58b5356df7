-- What the printing program prints for a file.
use Rattle.std.specs.Prelude.{◌∷◌, ◌++◌}
use Rattle.definitions.specs.Basics.{ℕ, zero, suc, List, [], map, flat_map, length, text, below, keep}
use Rattle.definitions.specs.Limits.{Field, clinic, limits}
use Rattle.definitions.specs.Syntax.{Region}
use Rattle.definitions.specs.Spelling.{decimal, bracketed, line}
use Rattle.definitions.specs.Plans.{Row, list_of}
use Rattle.definitions.specs.Sheets.{sheet_of}
use Rattle.definitions.specs.Questions.{region_of, clinic_present}
use Rattle.definitions.specs.Isolation.{yield_number}

-- `(row c (b ..))`: the cost, then the beds.
unfoldable pub printed_row : Row → List ℕ
printed_row row = line (text "row" ∷ decimal row.cost ∷ bracketed (map decimal row.beds) ∷ [])

-- A title line that ends in the row count, then the rows.
unfoldable pub printed_rows : List (List ℕ) → List Row → List ℕ
printed_rows title rows = line (title ++ decimal (length rows) ∷ []) ++ flat_map printed_row rows

-- The clinics that have patients, rising.
unfoldable pub clinics_present : Region → List ℕ
clinics_present r = keep (clinic_present r) (below (suc (limits clinic).highest))

-- The list, then a sheet for each of those clinics; a refused file prints only `(refused q)`.
abbrev pub printed_answer : ℕ → Region → List ℕ
printed_answer zero r =
    printed_rows (text "list" ∷ []) (list_of r)
    ++ flat_map (λ c. printed_rows (text "sheet" ∷ decimal c ∷ []) (sheet_of r c)) (clinics_present r)
printed_answer (suc q) r = line (text "refused" ∷ decimal (suc q) ∷ [])

-- The program's own areas are long enough, so a file is refused only where it does not yield a list.
unfoldable pub printed : List ℕ → List ℕ
printed file = printed_answer (yield_number file) (region_of file)
