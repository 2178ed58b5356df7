-- What a held region and its store say, as the definitions' region: what the definitions say of a region can be said of these two.
use Rattle.std.specs.Prelude.{◌+◌, None}
use Rattle.definitions.specs.Basics.{ℕ, zero, suc, List, [], map, get_or, replicate, below}
use Rattle.definitions.specs.Syntax as Said
use Rattle.definitions.specs.Writer.{with_sum}
use Rattle.held_region.specs.declared.Patient.{Patient}
use Rattle.held_region.specs.declared.Table.{Table}
use Rattle.held_region.specs.declared.Region.{Region}
-- A field that may be a hyphen, and the number that stands for one in the store: the largest is the mark of a forbidden entry.
pub use Rattle.scanner.specs.Answers.{optional, mark, code_of, said_by}

-- ---- patients

abbrev pub patient_of : Patient → Said.Patient
patient_of p = record { clinic = p.clinic; bed_count = p.beds; parent = optional p.parent; fixed_bed = optional p.fixed }

-- What stands where no patient is held; the patient at a place.
abbrev pub no_patient : Patient
no_patient = record { clinic = 0; beds = 0; parent = None; fixed = None }

abbrev pub patient_in : Region → ℕ → Patient
patient_in h s = get_or h.patients s no_patient

-- ---- tables

-- What stands where no table is held; the table at a place. (Past the last place the code reads one without even places for members.)
abbrev pub no_table : Table
no_table = record { first = replicate 4 0; members = 0; entries = 0 }

abbrev pub table_in : Region → ℕ → Table
table_in h i = get_or h.tables i (record { first = []; members = 0; entries = 0 })

-- A table's members, as many as it counts. (Those past the fourth are not held; question 7 refuses them, and here they are 0.)
abbrev pub members_of : Table → List ℕ
members_of t = map (λ j. get_or t.first j 0) (below t.members)

-- The sum of the first i counts: where the entries of table i begin, behind those of the tables before it.
abbrev pub sum_before : (ℕ → ℕ) → ℕ → ℕ
sum_before count zero = 0
sum_before count (suc i) = sum_before count i + count i

abbrev pub start_in : Region → ℕ → ℕ
start_in h = sum_before (λ i. (table_in h i).entries)

-- Table i with its members and the entries that stand in the store from its start on.
abbrev pub table_said : Region → List ℕ → ℕ → Said.Table
table_said h store i = record { members = members_of (table_in h i); entries = map (λ k. said_by (get_or store (start_in h i + k) 0)) (below (table_in h i).entries) }

-- ---- the region

-- m, the first v patients, the first t tables; their sum is the true one.
unfoldable pub said : Region → List ℕ → Said.Region
said h store = with_sum (record {
  patient_count = h.v;
  table_count = h.t;
  plans_wanted = h.m;
  patients = map (λ s. patient_of (patient_in h s)) (below h.v);
  tables = map (table_said h store) (below h.t);
  stated_sum = 0;
})

abbrev pub blank_region : Region
blank_region = record { v = 0; t = 0; m = 0; patients = replicate 32 no_patient; tables = replicate 64 no_table }
