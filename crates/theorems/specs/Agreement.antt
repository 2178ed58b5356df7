-- Demand 3: two files that yield a list and have the same clinic, which no table joins to the others, have sheets that begin alike.
-- (Theorems that rest on these stand in `proofs/Agreement.antt`.)
use Rattle.std.specs.Prelude.{◌<◌, ◌≡◌}
use Rattle.definitions.specs.Basics.{ℕ, get_or, take}
use Rattle.definitions.specs.Outcomes.{ListOutcome}
use Rattle.definitions.specs.Boundary.{bytes_of, ListCall}
use Rattle.theorems.specs.SheetAreas.{row_at}

-- ---- demand 3 of what is printed

-- Two outcomes: each has a first row, and at every row that both have the k beds and the cost are the same.
pub record SameSheets (k : ℕ) (first second : ListOutcome) : Type 0 where
  pub first_row : 0 < first.rows
  pub second_row : 0 < second.rows
  pub same_beds : (r : ℕ) → r < first.rows → r < second.rows → row_at k r first.beds ≡ row_at k r second.beds
  pub same_cost : (r : ℕ) → r < first.rows → r < second.rows → get_or first.costs r 0 ≡ get_or second.costs r 0

-- Two calls from C, whose result areas say s and t rows: a cost is eight bytes.
pub record SameCalls (k s t : ℕ) (first second : ListCall) : Type 0 where
  pub first_count : take 8 first.result ≡ bytes_of 8 s
  pub second_count : take 8 second.result ≡ bytes_of 8 t
  pub first_row : 0 < s
  pub second_row : 0 < t
  pub same_beds : (r : ℕ) → r < s → r < t → row_at k r first.beds ≡ row_at k r second.beds
  pub same_cost : (r : ℕ) → r < s → r < t → row_at 8 r first.costs ≡ row_at 8 r second.costs
