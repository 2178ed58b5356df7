-- What a region file says: the tree of its lines.
use Rattle.definitions.specs.Basics.{ℕ, Bool, Option, none, List, map, length, get_or, eqb, below, keep}

-- `(patient c d p b)`: clinic, count of beds, parent (none at a root), fixed bed (none where free).
-- A patient is a variable, a bed one of its values; a fixed bed is the one value that the variable may take.
pub record Patient : Type 0 where
  pub clinic : ℕ
  pub bed_count : ℕ
  pub parent : Option ℕ
  pub fixed_bed : Option ℕ

-- `(cost (s ..) (e ..))`: members and entries (none where forbidden). A table is a cost function over its members.
pub record Table : Type 0 where
  pub members : List ℕ
  pub entries : List (Option ℕ)

-- The whole file: V, T and m of the first line, the patients, the tables, and n of the end line.
pub record Region : Type 0 where
  pub patient_count : ℕ
  pub table_count : ℕ
  pub plans_wanted : ℕ
  pub patients : List Patient
  pub tables : List Table
  pub stated_sum : ℕ

-- Patients are numbered from 0 in file order.
abbrev pub patient_numbers : Region → List ℕ
patient_numbers region = below (length region.patients)

-- The patient of a number. (Questions 6 and 7 shut out a number that no patient has; here it has no beds.)
unfoldable pub patient_at : Region → ℕ → Patient
patient_at region s = get_or region.patients s (record { clinic = 0; bed_count = 0; parent = none; fixed_bed = none })

-- How many beds each of some patients has; their fixed beds.
abbrev pub bed_counts : Region → List ℕ → List ℕ
bed_counts region patients = map (λ s. (patient_at region s).bed_count) patients

abbrev pub fixed_beds : Region → List ℕ → List (Option ℕ)
fixed_beds region patients = map (λ s. (patient_at region s).fixed_bed) patients

-- The patients of a clinic, by rising number.
unfoldable pub patients_of : Region → ℕ → List ℕ
patients_of region clinic = keep (λ s. eqb (patient_at region s).clinic clinic) (patient_numbers region)
