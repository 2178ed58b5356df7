-- The sheet of a clinic.
use Rattle.std.specs.Prelude.{◌∷◌}
use Rattle.definitions.specs.Basics.{ℕ, min, Bool, option_get_or, List, [], map, eqb, keep, same, first_occurrences}
use Rattle.definitions.specs.Syntax.{Table, Region, patient_at, patients_of}
use Rattle.definitions.specs.Plans.{Plan, bed_of, cost_over, Row, list_of}

-- A clinic's part of a plan: the beds of its patients, by rising number.
unfoldable pub part : Region → ℕ → Plan → List ℕ
part region clinic plan = map (bed_of plan) (patients_of region clinic)

-- The lowest of some numbers. (Every table has a member.)
abbrev pub lowest : List ℕ → ℕ
lowest [] = 0
lowest (n ∷ []) = n
lowest (n ∷ m ∷ ns) = min n (lowest (m ∷ ns))

-- The tables that count for a clinic: those whose lowest-numbered member is its patient.
unfoldable pub own_tables : Region → ℕ → List Table
own_tables region clinic = keep (λ t. eqb (patient_at region (lowest t.members)).clinic clinic) region.tables

-- The clinic's own cost of a row of the list, its share of the total: the sum over its own tables. (The row is allowed, so there is one.)
unfoldable pub own_cost : Region → ℕ → Row → ℕ
own_cost region clinic row = option_get_or (cost_over (own_tables region clinic) region row.beds) 0

-- What the sheet holds of a row of the list.
unfoldable pub own_row : Region → ℕ → Row → Row
own_row region clinic row = record { cost = own_cost region clinic row; beds = part region clinic row.beds }

abbrev pub same_beds : Row → Row → Bool
same_beds v w = same eqb v.beds w.beds

-- The sheet walks the list and keeps each row whose beds for those patients have not come before, with the cost of the row where they first came.
unfoldable pub sheet_of : Region → ℕ → List Row
sheet_of region clinic = first_occurrences same_beds [] (map (own_row region clinic) (list_of region))
