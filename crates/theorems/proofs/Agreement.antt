-- Demand 3: two files that yield a list and have the same clinic, which no table joins to the others, have sheets that begin alike.
use Rattle.std.proofs.Math.Path.{sym, ap}
use Rattle.std.proofs.Common.{◌∙◌, arith, get_or-take, get_or-drop, ◌+◌, ◌*◌, ◌<◌, ◌≡◌}
use Rattle.std.specs.Prelude.{drop}
use Rattle.std.proofs.lemmas.List.{length-map}
use Rattle.definitions.specs.Basics.{ℕ, min, List, [], length, get_or, take}
use Rattle.definitions.specs.Syntax.{Patient, Table, Region, patient_numbers, patient_at, patients_of}
use Rattle.definitions.specs.Plans.{Plan, entry_for, cost_over, total, Row}
use Rattle.definitions.specs.Sheets.{sheet_of}
use Rattle.definitions.specs.Questions.{region_of}
use Rattle.definitions.specs.Outcomes.{sheet_outcome}
use Rattle.definitions.specs.Boundary.{sheet_call}
use Rattle.definitions.specs.Isolation.{YieldsList, times_in, SameClinic, SameBeginning}
use Rattle.lists.specs.Members.{◌⊆◌}
use Rattle.ranking.specs.First.{first_iff}
use Rattle.ranking.proofs.First.{first_take, first_unique}
use Rattle.theorems.specs.List.{Allowed}
use Rattle.theorems.specs.Sums.{plus, sum_over, sum_same}
use Rattle.theorems.specs.Fixed.{fixed_cost, total_parts}
use Rattle.theorems.specs.Sameness.{table_tests}
use Rattle.theorems.specs.Places.{alone, patients_alone, same_alone}
use Rattle.theorems.specs.Isolation.{MembersPatients, members_known, clinic_alone}
use Rattle.theorems.proofs.Isolation.{sheet_first}
use Rattle.theorems.specs.Yields.{yielding}
use Rattle.theorems.proofs.Yields.{sheet_some}
use Rattle.theorems.specs.SheetAreas.{row_at, Printed, outcome_rows}
use Rattle.theorems.proofs.SheetAreas.{outcome_printed, call_rows, call_printed}
use Rattle.theorems.specs.Agreement.{SameSheets, SameCalls}

-- The same patients and the same tables, each as often, allow the same rows at the same costs.
module _ (m : ℕ) (ps qs : List Patient) (ts us : List Table) (patients : ps ≡ qs) (tables : (t : Table) → times_in ts t ≡ times_in us t) where
  same_total : (plan : Plan) → total (alone m ps ts) plan ≡ total (alone m qs us) plan
  unfolding cost_over entry_for patient_at times_in
  same_total plan =
      ap (λ (l : List Patient). total (alone m l ts) plan) patients ∙ total_parts (alone m qs ts) plan
      ∙ ap (λ o. plus o (sum_over (fixed_cost (alone m qs us) plan) (patient_numbers (alone m qs us)))) (sum_same table_tests (entry_for (alone m qs us) plan) ts us tables)
      ∙ sym (total_parts (alone m qs us) plan)

  same_allowed : Allowed (alone m ps ts) ⊆ Allowed (alone m qs us)
  same_allowed w a = record { fits = rw (← patients) a.fits; priced = sym (same_total w.beds) ∙ a.priced }

-- So the two clinics alone have one ranked list, which both sheets begin.
pub sheets_agree : (first second : Region) (c : ℕ) → MembersPatients first → MembersPatients second → SameClinic c first second
    → take (min (length (sheet_of first c)) (length (sheet_of second c))) (sheet_of first c)
    ≡ take (min (length (sheet_of first c)) (length (sheet_of second c))) (sheet_of second c)
sheets_agree first second c in_first in_second same = first_unique {m = min (length (sheet_of first c)) (length (sheet_of second c))}
    (first_take (omega arith) (first_iff there back (sheet_first first c 0 in_first same.apart_in_first)))
    (first_take (omega arith) (sheet_first second c 0 in_second same.apart_in_second))
  where
    patients : patients_alone first (patients_of first c) ≡ patients_alone second (patients_of second c)
    patients = same_alone first second (patients_of first c) (patients_of second c) same.beds same.fixed

    there : Allowed (clinic_alone 0 first c) ⊆ Allowed (clinic_alone 0 second c)
    there = same_allowed 0 _ _ _ _ patients same.tables

    back : Allowed (clinic_alone 0 second c) ⊆ Allowed (clinic_alone 0 first c)
    back = same_allowed 0 _ _ _ _ (sym patients) (λ t. sym (same.tables t))

-- Demand 3, of the sheets of any two files.
pub same_beginning_lem : (f g : List ℕ) (c : ℕ) → YieldsList f → YieldsList g → SameClinic c (region_of f) (region_of g)
    → SameBeginning (sheet_of (region_of f) c) (sheet_of (region_of g) c)
same_beginning_lem f g c in_f in_g same = record {
  first_row = sheet_some f in_f c;
  second_row = sheet_some g in_g c;
  same_rows = sheets_agree (region_of f) (region_of g) c (members_known (region_of f) (yielding f in_f)) (members_known (region_of g) (yielding g in_g)) same;
}

-- ---- demand 3 of what is printed

-- The same clinic has the same number of patients.
same_number : {c : ℕ} {first second : Region} → SameClinic c first second → length (patients_of first c) ≡ length (patients_of second c)
same_number {c} {first} {second} same =
    sym (length-map (patients_of first c) (λ s. (patient_at first s).bed_count)) ∙ ap length same.beds ∙ length-map (patients_of second c) (λ s. (patient_at second s).bed_count)

-- At every row that both sheets have, the areas hold the same.
module _ {f g : List ℕ} {c size : ℕ} {parts : ℕ → List ℕ} {beds costs other_beds other_costs : List ℕ} (same : SameClinic c (region_of f) (region_of g))
    (first : Printed f c size parts beds costs) (second : Printed g c size parts other_beds other_costs) where
  abbrev v : List Row
  v = sheet_of (region_of f) c

  abbrev w : List Row
  w = sheet_of (region_of g) c

  abbrev no_row : Row
  no_row = record { cost = 0; beds = [] }

  alike : SameBeginning v w
  alike = same_beginning_lem f g c first.list second.list same

  row_alike : (r : ℕ) → r < length v → r < length w → get_or v r no_row ≡ get_or w r no_row
  row_alike r in_v in_w =
      sym (get_or-take (min (length v) (length w)) v r no_row (omega arith))
      ∙ ap (λ (l : List Row). get_or l r no_row) alike.same_rows
      ∙ get_or-take (min (length v) (length w)) w r no_row (omega arith)

  beds_alike : (r : ℕ) → r < length v → r < length w → row_at (length (patients_of (region_of f) c)) r beds ≡ row_at (length (patients_of (region_of f) c)) r other_beds
  beds_alike r in_v in_w =
      first.beds_at r no_row in_v ∙ ap (λ (x : Row). x.beds) (row_alike r in_v in_w)
      ∙ sym (ap (λ (k : ℕ). row_at k r other_beds) (same_number same) ∙ second.beds_at r no_row in_w)

  cost_alike : (r : ℕ) → r < length v → r < length w → row_at size r costs ≡ row_at size r other_costs
  cost_alike r in_v in_w = first.cost_at r no_row in_v ∙ ap (λ (x : Row). parts x.cost) (row_alike r in_v in_w) ∙ sym (second.cost_at r no_row in_w)

-- The value at a place is a row of width 1.
one_at : (r : ℕ) (l : List ℕ) → get_or (row_at 1 r l) 0 0 ≡ get_or l r 0
one_at r l =
    let same : r * 1 + 0 ≡ r = omega arith in
    get_or-take 1 (drop (r * 1) l) 0 0 (omega arith) ∙ get_or-drop (r * 1) l 0 0 ∙ ap (λ (n : ℕ). get_or l n 0) same

pub same_sheets : (f g : List ℕ) (c : ℕ) (beds costs work other_beds other_costs other_work : List ℕ) → SameClinic c (region_of f) (region_of g)
    → (sheet_outcome f c beds costs work).number ≡ 0 → (sheet_outcome g c other_beds other_costs other_work).number ≡ 0
    → SameSheets (length (patients_of (region_of f) c)) (sheet_outcome f c beds costs work) (sheet_outcome g c other_beds other_costs other_work)
same_sheets f g c beds costs work other_beds other_costs other_work same in_f in_g =
    let first = outcome_printed f c beds costs work in_f in
    let second = outcome_printed g c other_beds other_costs other_work in_g in
    rw (outcome_rows f c beds costs work in_f, outcome_rows g c other_beds other_costs other_work in_g) (record {
      first_row = (alike same first second).first_row;
      second_row = (alike same first second).second_row;
      same_beds = beds_alike same first second;
      same_cost = λ r in_v in_w. sym (one_at r _) ∙ ap (λ l. get_or l 0 0) (cost_alike same first second r in_v in_w) ∙ one_at r _;
    })

pub same_calls : (f g : List ℕ) (c : ℕ) (beds costs result other_beds other_costs other_result : List ℕ) → SameClinic c (region_of f) (region_of g)
    → (sheet_call f c beds costs result).number ≡ 0 → (sheet_call g c other_beds other_costs other_result).number ≡ 0
    → SameCalls (length (patients_of (region_of f) c)) (length (sheet_of (region_of f) c)) (length (sheet_of (region_of g) c))
    (sheet_call f c beds costs result) (sheet_call g c other_beds other_costs other_result)
same_calls f g c beds costs result other_beds other_costs other_result same in_f in_g =
    let first = call_printed f c beds costs result in_f in
    let second = call_printed g c other_beds other_costs other_result in_g in
    record {
      first_count = call_rows f c beds costs result in_f;
      second_count = call_rows g c other_beds other_costs other_result in_g;
      first_row = (alike same first second).first_row;
      second_row = (alike same first second).second_row;
      same_beds = beds_alike same first second;
      same_cost = cost_alike same first second;
    }
