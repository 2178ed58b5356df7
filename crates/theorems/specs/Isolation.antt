-- Where no table joins a clinic to the others, its sheet is the beginning of the ranked list of the clinic alone.
-- (Theorems that rest on these stand in `proofs/Isolation.antt`.)
use Rattle.std.proofs.Math.Path.{sym, ap}
use Rattle.std.proofs.Common.{◌∙◌, ◌+◌, ◌<◌, ◌≡◌, ◌∷◌}
use Rattle.definitions.specs.Basics.{ℕ, suc, refl, Bool, false, option_get_or}
use Rattle.definitions.specs.Basics.{List, [], map, length, eqb, any, keep, contains}
use Rattle.definitions.specs.Syntax.{Table, Region, patient_numbers, patient_at, patients_of}
use Rattle.definitions.specs.Plans.{Plan, cost_over, Row}
use Rattle.definitions.specs.Sheets.{lowest, part, own_tables, own_cost}
use Rattle.definitions.specs.Isolation.{is_among, tables_among, joins}
use Rattle.lists.specs.Members.{◌∈◌}
use Rattle.lists.specs.Every.{any_false, all_or_none}
use Rattle.lists.specs.Keep.{keep_same}
use Rattle.theorems.specs.List.{Fits}
use Rattle.theorems.specs.Interleaving.{interleave}
use Rattle.theorems.specs.Accepted.{Accepted, table_right}
use Rattle.theorems.specs.Lowest.{lowest_in_lem}
use Rattle.theorems.specs.Clinics.{clinic_patient}
use Rattle.theorems.specs.Places.{alone, patients_alone}

-- A plan has as many beds as there are patients.
pub fits_length : (ds : List ℕ) (plan : Plan) → Fits ds plan → length ds ≡ length plan
fits_length [] [] f = refl
fits_length [] (b ∷ plan) f = absurd f
fits_length (d ∷ ds) [] f = absurd f
fits_length (d ∷ ds) (b ∷ plan) f = ap suc (fits_length ds plan f.1)

-- Every table has a member, and its members are patients.
abbrev pub MembersPatients : Region → Type 0
MembersPatients region = (t : Table) → t ∈ region.tables → (0 < length t.members) × ((s : ℕ) → s ∈ t.members → s < length region.patients)

pub members_known : (region : Region) → Accepted region → MembersPatients region
members_known region a t k = let right = table_right region a k in (right.some, λ s i. right.known i)

-- The clinic alone, for m plans: its patients' beds and the tables among them, by places, and nothing else.
abbrev pub clinic_alone : ℕ → Region → ℕ → Region
clinic_alone m region c = alone m (patients_alone region (patients_of region c)) (tables_among region c)

-- ---- a region falls into the clinic and the rest

module _ (region : Region) (c m : ℕ) (members : MembersPatients region) (apart : any (joins region c) region.tables ≡ false) where
  -- The clinic's patients are marked.
  abbrev pub mine : ℕ → Bool
  mine s = eqb (patient_at region s).clinic c

  abbrev pub marks : List Bool
  marks = map mine (patient_numbers region)

  abbrev pub patients : List ℕ
  patients = patients_of region c

  -- The tables among them, and the other tables.
  abbrev pub their_tables : List Table
  their_tables = keep (is_among region c) region.tables

  -- The clinic alone; the rest alone, for one plan.
  abbrev pub own : Region
  own = clinic_alone m region c

  -- Since no table joins, a table is among them where any one of its members is theirs.
  pub among_as_one : (t : Table) → t ∈ region.tables → (s : ℕ) → s ∈ t.members → is_among region c t ≡ mine s
  unfolding joins is_among
  among_as_one t k s i =
      all_or_none (contains patients) t.members i ((any_false (joins region c) region.tables).0 apart t k)
      ∙ clinic_patient region c s ((members t k).1 s i)

  -- So the tables that count for the clinic are those among its patients.
  pub own_apart : own_tables region c ≡ their_tables
  unfolding own_tables
  own_apart = keep_same _ (is_among region c) region.tables (λ t k. sym (among_as_one t k (lowest t.members) (lowest_in_lem t.members (members t k).0)))

  -- So the own cost of a row is what the clinic alone charges for its part: it depends on nothing else.
  abbrev pub OwnAlone : Type 0
  OwnAlone = (w : Row) → own_cost region c w ≡ option_get_or (cost_over (tables_among region c) own (part region c w.beds)) 0

  -- A row of the clinic and a row of the rest, put together.
  abbrev pub combine : Row → Row → Row
  combine v w = record { cost = v.cost + w.cost; beds = interleave marks v.beds w.beds }
