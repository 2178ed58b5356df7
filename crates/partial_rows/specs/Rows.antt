-- Rows of a set of patients, given the beds of the patients that are placed already; branches of a walk; lower bounds.
use Rattle.std.specs.Prelude.{set, ◌≤◌, ◌+◌, ◌<◌, ◌≡◌, ◌&&◌, ◌||◌}
use Rattle.definitions.specs.Basics.{ℕ, Bool, true, false, not, cond, some, List, map, length, replicate, any, keep}
use Rattle.definitions.specs.Syntax.{Table, Region, patient_numbers, patient_at}
use Rattle.definitions.specs.Plans.{Plan, bed_of, cost_over, constraints, Row}
use Rattle.lists.specs.Members.{◌∈◌}
use Rattle.partial_rows.specs.Adding.{add_beds, add_rows}
use Rattle.partial_rows.specs.Sets.{Patients}

-- ---- tables

-- The table has a member in the set; the tables of a set are those that have.
abbrev pub holds : Patients → Table → Bool
holds D t = any D t.members

unfoldable pub tables_of : Region → Patients → List Table
tables_of region D = keep (holds D) (constraints region)

-- The tables with a member in D and none in E: once D is placed and only E is left, their entries are decided.
unfoldable pub decided_tables : Region → Patients → Patients → List Table
decided_tables region D E = keep (λ t. holds D t && not (holds E t)) (constraints region)

-- Every member of a table of D is in D or among those who have a bed already.
abbrev pub Closed : Region → Patients → Patients → Type 0
Closed region D bedded = (t : Table) → t ∈ constraints region → holds D t ≡ true → (s : ℕ) → s ∈ t.members → (D s || bedded s) ≡ true

-- ---- rows

-- Bed 0 for every patient, and the row of nobody; the beds that a plan has in a set, and 0 outside it.
abbrev pub no_beds : Region → List ℕ
no_beds region = replicate (length region.patients) 0

abbrev pub empty_row : Region → Row
empty_row region = record { cost = 0; beds = no_beds region }

unfoldable pub beds_in : Region → Patients → Plan → List ℕ
beds_in region D plan = map (λ s. cond (D s) (bed_of plan s) 0) (patient_numbers region)

-- Inside a set a bed is below its patient's count, outside it is 0.
abbrev pub BedIn : Bool → ℕ → ℕ → Type 0
BedIn true count bed = bed < count
BedIn false count bed = bed ≡ 0

-- Beds for a set: one for each patient of the region.
pub record BedsOf (region : Region) (D : Patients) (beds : List ℕ) : Type 0 where
  pub long : length beds ≡ length region.patients
  pub each : (s : ℕ) → s < length region.patients → BedIn (D s) (patient_at region s).bed_count (bed_of beds s)

-- A row of D: beds for it, with the sum over its tables for the plan that has these beds and, outside D, those placed (which are 0 in D).
pub record RowOf (region : Region) (D : Patients) (placed : Plan) (w : Row) : Type 0 where
  pub fits : BedsOf region D w.beds
  pub priced : cost_over (tables_of region D) region (add_beds placed w.beds) ≡ some w.cost

-- No row of D costs less than n.
abbrev pub LowerBound : Region → Patients → Plan → ℕ → Type 0
LowerBound region D placed n = (w : Row) → RowOf region D placed w → n ≤ w.cost

-- ---- a walk

-- A step: beds for D, with the sum over the tables that are decided when only E is left.
pub record Step (region : Region) (D E : Patients) (placed : Plan) (u : Row) : Type 0 where
  pub fits : BedsOf region D u.beds
  pub priced : cost_over (decided_tables region D E) region (add_beds placed u.beds) ≡ some u.cost

-- The branch below its head u, the cost and the beds so far, where only E is left: u with a row of E added.
pub record Branch (region : Region) (E : Patients) (placed : Plan) (u z : Row) : Type 0 where
  pub rest : Row
  pub in_rest : RowOf region E placed rest
  pub is : z ≡ add_rows u rest

-- A walk's position, where D is left: who is in D is a patient without a bed, in all that is placed and in the head of the branch.
pub record Position (region : Region) (D : Patients) (placed : Plan) (u : Row) : Type 0 where
  pub known : (s : ℕ) → D s ≡ true → s < length region.patients
  pub room : length region.patients ≤ length placed
  pub long : length u.beds ≡ length region.patients
  pub unplaced : (s : ℕ) → D s ≡ true → bed_of placed s ≡ 0
  pub unplaced_in_head : (s : ℕ) → D s ≡ true → bed_of u.beds s ≡ 0

-- The head with one more bed, at a cost.
abbrev pub with_bed : Row → ℕ → ℕ → ℕ → Row
with_bed u s b c = record { cost = u.cost + c; beds = set u.beds s b }
