-- What the steps of a sheet ask for and give: a clinic's part, its own cost, its own row, and the rows kept.
use Rattle.std.specs.Prelude.{◌≤◌, ◌+◌, ◌<◌, ◌≡◌, ◌∷◌, ◌++◌}
use Rattle.definitions.specs.Basics.{ℕ, cond, option_get_or, List, [], map, length, take, any}
use Rattle.definitions.specs.Syntax.{Region, patients_of}
use Rattle.definitions.specs.Plans as Said
use Rattle.definitions.specs.Plans.{bed_of, cost_over, list_of}
use Rattle.definitions.specs.Sheets.{own_row, same_beds, sheet_of}
use Rattle.theorems.specs.Accepted.{Accepted}
use Rattle.patient_set.specs.Sets.{members}
use Rattle.buckets.specs.Terms.{Fitting, Prepared}
use Rattle.buckets.specs.WithTables.{with_tables}
use Rattle.buckets.specs.Counting.{counts_for}
use Rattle.partial_rows.specs.Padding.{unpadded, Padded}
use Rattle.packed_rows.specs.declared.Row as Code
use Rattle.packed_rows.specs.Packed.{row_of}
use Rattle.row_list.specs.Rows.{whole_rows}
use Rattle.row_sums.specs.Sums.{work_part, list_at}
use Rattle.bucket_words.specs.declared.PatientBucket.{PatientBucket}
use Rattle.bucket_words.specs.declared.TableTerm.{TableTerm}

-- The beds of some patients, moved together in their order.
abbrev pub PartTaken : List ℕ → List ℕ → List ℕ → Type 0
PartTaken beds patients taken = take (length patients) taken ≡ map (bed_of beds) patients

-- What the tables cost for a plan, 0 where one of them forbids it.
abbrev pub Priced : List ℕ → List PatientBucket → List TableTerm → ℕ → List ℕ → ℕ → Type 0
Priced store patients terms v beds n =
    (r : Region) → Prepared r store patients terms → Fitting r beds → v ≡ length r.patients → n ≡ option_get_or (cost_over r.tables r (take v beds)) 0

-- ---- a row of the list

-- The buckets are those of a clinic's own tables, and the set holds its patients.
pub record Own (r : Region) (clinic : ℕ) (store : List ℕ) (patients : List PatientBucket) (terms : List TableTerm) (v set : ℕ) : Type 0 where
  pub accepted : Accepted r
  pub prepared : Prepared (with_tables r (counts_for set)) store patients terms
  pub of_clinic : members set ≡ patients_of r clinic
  pub all : v ≡ length r.patients

pub record AsksOwn (store : List ℕ) (patients : List PatientBucket) (terms : List TableTerm) (v : ℕ) (row : Code.Row) (set : ℕ) : Type 0 where
  pub region : Region
  pub clinic : ℕ
  pub own : Own region clinic store patients terms v set
  pub fits : Fitting region (row_of row).beds
  pub few : v ≤ 32

-- What the sheet holds of the row: as many beds as the clinic has patients, and bed 0 for the others.
pub record GivesOwn (store : List ℕ) (patients : List PatientBucket) (terms : List TableTerm) (v : ℕ) (row : Code.Row) (set : ℕ) (result : Code.Row) : Type 0 where
  pub padded : Padded (length (members set)) (row_of result)
  pub is : (r : Region) (clinic : ℕ) → Own r clinic store patients terms v set → Fitting r (row_of row).beds
      → unpadded (length (members set)) (row_of result) ≡ own_row r clinic (unpadded v (row_of row))

-- ---- the rows kept

-- There is room for n rows and one more.
pub record Room (n : ℕ) (sheet : List ℕ) : Type 0 where
  pub few : n < 64
  pub long : 384 ≤ length sheet

-- The rows with one more at their end, unless its beds have come before.
abbrev pub with_new : Said.Row → List Said.Row → List Said.Row
with_new row rows = cond (any (same_beds row) rows) rows (rows ++ row ∷ [])

pub record Kept (n : ℕ) (row : Code.Row) (sheet after : List ℕ) (r : ℕ) : Type 0 where
  pub count : r ≤ n + 1
  pub rows : whole_rows r after ≡ with_new (row_of row) (whole_rows n sheet)
  pub long : length after ≡ length sheet

-- ---- the whole list

-- The list lies in the first part of the work area.
pub record Listed (r : Region) (clinic : ℕ) (store : List ℕ) (patients : List PatientBucket) (terms : List TableTerm) (v n set : ℕ) (work : List ℕ) : Type 0 where
  pub own : Own r clinic store patients terms v set
  pub list : list_at v n 0 work ≡ list_of r

pub record AsksList (store : List ℕ) (patients : List PatientBucket) (terms : List TableTerm) (v n set : ℕ) (work : List ℕ) : Type 0 where
  pub region : Region
  pub clinic : ℕ
  pub listed : Listed region clinic store patients terms v n set work
  pub few_patients : v ≤ 32
  pub few : n ≤ 64
  pub long : 1_152 ≤ length work

pub record GivesList (store : List ℕ) (patients : List PatientBucket) (terms : List TableTerm) (v n set : ℕ) (work after : List ℕ) (k : ℕ) : Type 0 where
  pub count : k ≤ n
  pub long : length after ≡ length work
  pub list : work_part 0 after ≡ work_part 0 work
  pub sheet : (r : Region) (clinic : ℕ) → Listed r clinic store patients terms v n set work → list_at (length (members set)) k 1 after ≡ sheet_of r clinic
