-- What stands in the lent areas after a sheet is printed: each row of the sheet in its place.
-- (Theorems that rest on these stand in `proofs/SheetAreas.antt`.)
use Rattle.std.proofs.Common.{arith, ◌*◌, ◌<◌, ◌≡◌}
use Rattle.std.proofs.Math.Path.{ap}
use Rattle.std.proofs.Math.Nat.{le_trans}
use Rattle.std.specs.Prelude.{◌≤◌, drop}
use Rattle.definitions.specs.Basics.{ℕ, List, length, get_or, take}
use Rattle.definitions.specs.Syntax.{Region, patient_numbers, patients_of}
use Rattle.definitions.specs.Plans.{Row}
use Rattle.definitions.specs.Sheets.{sheet_of}
use Rattle.definitions.specs.Questions.{Asked, entry_asks, region_of, areas_long_enough, asked_by_sheet}
use Rattle.definitions.specs.Isolation.{YieldsList}
use Rattle.definitions.specs.Outcomes.{Found, unless_refused, sheet_found, outcome_of, sheet_outcome}
use Rattle.lists.specs.Keep.{keep_short}
use Rattle.lists.specs.Below.{below_long}

-- ---- one row among those that were written

-- The values in row r of an area whose rows have one width.
abbrev pub row_at : ℕ → ℕ → List ℕ → List ℕ
row_at width r area = take width (drop (r * width) area)

-- ---- a sheet has room: at most m rows of at most V beds

module _ (region : Region) (c : ℕ) where
  pub patients_few : length (patients_of region c) ≤ length region.patients
  unfolding patients_of
  patients_few = le_trans (keep_short _ (patient_numbers region)) (omega (arith, below_long (length region.patients)))

-- ---- what a printed sheet leaves in the areas

-- The file yields a list, and its sheet stands in a beds area and, each cost in parts of one size, in a cost area.
pub record Printed (file : List ℕ) (c size : ℕ) (parts : ℕ → List ℕ) (beds costs : List ℕ) : Type 0 where
  pub list : YieldsList file
  pub beds_at : (r : ℕ) (d : Row) → r < length (sheet_of (region_of file) c)
      → row_at (length (patients_of (region_of file) c)) r beds ≡ (get_or (sheet_of (region_of file) c) r d).beds
  pub cost_at : (r : ℕ) (d : Row) → r < length (sheet_of (region_of file) c) → row_at size r costs ≡ parts (get_or (sheet_of (region_of file) c) r d).cost

module _ (file : List ℕ) (c : ℕ) where
  abbrev pub region : Region
  region = region_of file

  abbrev pub found : Asked → Found
  found asked = sheet_found file c asked

  pub found_rows : (asked : Asked) → (found asked).number ≡ 0 → (found asked).rows ≡ sheet_of region c
  unfolding sheet_found
  found_rows asked e = ap (λ (n : ℕ). unless_refused n (sheet_of region c)) e

  -- The entry: each cost is one number.
  module _ (beds costs work : List ℕ) (e : (sheet_outcome file c beds costs work).number ≡ 0) where
    abbrev pub entry_asked : Asked
    entry_asked = entry_asks (asked_by_sheet file c (areas_long_enough region beds costs work))

    pub outcome_rows : (sheet_outcome file c beds costs work).rows ≡ length (sheet_of region c)
    unfolding sheet_outcome outcome_of
    outcome_rows = ap length (found_rows entry_asked e)
