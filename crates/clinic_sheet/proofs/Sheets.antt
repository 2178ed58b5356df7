-- The sheet of a loaded region: what is written of it, and the answer.
use mathlib.Core.Path.{◌≡◌, sym, ap, ◌∙◌}
use Prim.Native.Nat.{◌≤◌}
use native.Mathlib.Nat.{le_trans, mul-le-mul}
use native.Mathlib.Omega.{arith}
use Rattle.std.specs.Prelude.{Ok, Err, ◌∷◌}
use Rattle.definitions.specs.Basics.{ℕ, Bool, true, false, not, List, [], map, length, replicate, is_empty, first_occurrences}
use Rattle.definitions.specs.Syntax as Said
use Rattle.definitions.specs.Syntax.{patients_of}
use Rattle.definitions.specs.Sheets.{same_beds, own_row, sheet_of}
use Rattle.definitions.specs.Plans.{Row}
use Rattle.definitions.specs.Questions.{first_no, clinic_present, areas_long_enough}
use Rattle.definitions.specs.Outcomes.{ListOutcome, written, found_by, outcome_of}
use Rattle.theorems.specs.Accepted.{Accepted}
use Rattle.theorems.specs.SheetAreas.{patients_few}
use Rattle.patient_set.specs.Sets.{members}
use Rattle.patient_set.specs.Laws.{size_most}
use Rattle.held_region.specs.declared.Region.{Region}
use Rattle.held_region.specs.Meaning.{said}
use Rattle.held_region.specs.Asked.{patients_said_lem}
use Rattle.row_list.specs.Rows.{rows_in}
use Rattle.row_sums.specs.Sums.{work_part}
use Rattle.row_sums.specs.Areas.{part_long}
use Rattle.row_writer.specs.Writing.{long_enough, Writable, RowsWritten}
use Rattle.search.specs.Trees.{GivesRegion}
use Rattle.sheets.specs.Sheets.{Given, Gives}
use Rattle.answers.specs.declared.SheetError.TheVariants.{Absent, Short, Nothing}
use Rattle.answers.specs.Answers.{sheeted_outcome}
use Rattle.region_answers.specs.Found.{last_asked, no_twelve, no_thirteen, no_refusal, outcome_with, asked_outcome}
use Rattle.theorems.specs.Clinics.{present_asked}
use Rattle.theorems.specs.PlanAllowed.{no_list}
use Rattle.theorems.proofs.PlanAllowed.{list_none, list_some}
use Rattle.clinic_sheet.specs.Sheets.{late_asked, AsksSheet, SheetWritten, RegionSheeted, no_eleven, yes_eleven}
use Rattle.region_answers.proofs.Areas.{question, all_long, narrow, written_out}
use Rattle.region_answers.proofs.Lists.{most, found_count}
use Rattle.clinic_sheet.proofs.Clinics.{own_costs_small}

-- A sheet whose rows lie in the second part of the work area, as rows of k beds.
module _ (h : Region) (store : List ℕ) {n set k count : ℕ} (beds costs work : List ℕ) {area : List ℕ} (asks : AsksSheet h store n set beds costs work) (wide : k ≡ length (members set))
    (gives : Gives h store n set work area count) where
  -- They are the sheet of every clinic that the set holds.
  rows : (clinic : ℕ) → Given h store clinic n set work → rows_in k count (work_part 1 area) ≡ sheet_of (said h store) clinic
  rows clinic given = ap (λ w. rows_in w count (work_part 1 area)) wide ∙ gives.sheet clinic given

  -- A clinic has at most V patients.
  narrower : k ≤ h.v
  narrower = omega (arith, wide, ap length asks.asks.given.patients, patients_few (said h store) asks.asks.clinic, patients_said_lem h store)

  pub writable_sheet : Writable k count (work_part 1 area) beds costs
  writable_sheet =
      let part_is = part_long 1 area (omega (arith, gives.long, asks.asks.long)) in
      record {
        patients = omega (arith, wide, size_most set);
        wanted = omega (arith, gives.count, asks.asks.few);
        held = omega (arith, part_is, gives.count, asks.asks.few);
        beds_long = le_trans (mul-le-mul (le_trans gives.count asks.count) narrower) asks.beds_long;
        costs_long = omega (arith, gives.count, asks.count, asks.costs_long);
        narrow = narrow k count (work_part 1 area) (rows asks.asks.clinic asks.asks.given) (own_costs_small (said h store) asks.asks.accepted asks.asks.clinic);
      }

  pub sheet_written : {beds_after costs_after after : List ℕ} → RowsWritten k count (work_part 1 area) beds costs beds_after costs_after → after ≡ replicate (length area) 0
      → SheetWritten h store n set beds costs work count beds_after costs_after after
  sheet_written rows_out zeros clinic given =
      written_out k count (work_part 1 area) (rows clinic given) (length (patients_of (said h store) clinic)) beds costs work (wide ∙ ap length given.patients) rows_out
      (zeros ∙ ap (λ l. replicate l 0) gives.long)

-- Areas of one length are the same zeros.
same_zeros : (width : ℕ) (sheet : List Row) (beds costs area work : List ℕ) → length area ≡ length work
    → outcome_with width sheet beds costs area 0 ≡ outcome_with width sheet beds costs work 0
unfolding outcome_of
same_zeros width sheet beds costs area work e =
    ap (λ l. record {
      number = 0;
      rows = length sheet;
      beds = written 0 width (λ row. row.beds) sheet beds;
      costs = written 0 1 (λ row. row.cost ∷ []) sheet costs;
      work = replicate l 0;
    }) e

module _ (h : Region) (store : List ℕ) (accepted : Accepted (said h store)) (clinic set : ℕ) (held : members set ≡ patients_of (said h store) clinic) (beds costs work : List ℕ)
    {empty : Bool} (told : empty ≡ is_empty (members set)) where
  abbrev r : Said.Region
  r = said h store

  -- Question 11, by the set.
  eleven : {answer : Bool} → empty ≡ answer → clinic_present r clinic ≡ not answer
  eleven e = present_asked r clinic ∙ ap (λ m. not (is_empty m)) (sym held) ∙ ap not (sym told ∙ e)

  pub sheeted_absent : empty ≡ true → RegionSheeted r clinic beds costs work (Err Absent) beds costs work
  unfolding outcome_of
  sheeted_absent e = asked_outcome _ _ beds costs work (late_asked r clinic (areas_long_enough r beds costs work)) (no_eleven r clinic (areas_long_enough r beds costs work) (eleven e))

  module _ (some_patient : empty ≡ false) {long : Bool} (asked : long ≡ long_enough h.v h.m (length beds) (length costs) (length work)) where
    -- The number is then that of the last questions.
    last : {number : ℕ} → first_no (last_asked r (areas_long_enough r beds costs work)) ≡ number
        → outcome_with (length (patients_of r clinic)) (sheet_of r clinic) beds costs work number
        ≡ outcome_of (found_by (late_asked r clinic (areas_long_enough r beds costs work)) (length (patients_of r clinic)) (sheet_of r clinic)) beds costs work
    last e =
        asked_outcome _ _ beds costs work (late_asked r clinic (areas_long_enough r beds costs work)) (yes_eleven r clinic (areas_long_enough r beds costs work) (eleven some_patient) ∙ e)

    pub sheeted_short : long ≡ false → RegionSheeted r clinic beds costs work (Err Short) beds costs work
    unfolding outcome_of
    sheeted_short e = last (no_twelve r (question h store beds costs work asked e))

    module _ (yes_twelve : long ≡ true) {n : ℕ} {area : List ℕ} (gives : GivesRegion h store work area n) where
      given : Given h store clinic n set area
      given = record { list = gives.list; patients = held }

      pub asks_sheet : AsksSheet h store n set beds costs area
      asks_sheet =
          let (beds_long_lem, costs_long_lem, work_long) = all_long h store beds costs work asked yes_twelve in
          record {
            asks = record {
              accepted = accepted;
              clinic = clinic;
              given = given;
              few = most h store accepted gives;
              long = omega (arith, gives.long, work_long);
            };
            count = gives.count;
            beds_long = beds_long_lem;
            costs_long = costs_long_lem;
          }

      module _ {k : ℕ} {beds_after costs_after after : List ℕ} (written_sheet : SheetWritten h store n set beds costs area k beds_after costs_after after) where
        -- The sheet as it was written, beside the work area as it was lent.
        left : sheeted_outcome (Ok k) beds_after costs_after after ≡ outcome_with (length (patients_of r clinic)) (sheet_of r clinic) beds costs work 0
        left = written_sheet clinic given ∙ same_zeros (length (patients_of r clinic)) (sheet_of r clinic) beds costs area work gives.long

        -- The sheet of an empty list is empty.
        pub sheeted_nothing : n ≡ 0 → RegionSheeted r clinic beds costs work (Err Nothing) beds_after costs_after after
        unfolding outcome_of sheet_of
        sheeted_nothing None-found =
            let count = found_count h store accepted gives in
            let nothing : sheet_of r clinic ≡ [] = ap (λ l. first_occurrences same_beds [] (map (own_row r clinic) l)) (no_list r accepted count None-found) in
            ap (λ (o : ListOutcome). sheeted_outcome (Err Nothing) o.beds o.costs o.work)
            (left ∙ ap (λ sheet. outcome_with (length (patients_of r clinic)) sheet beds costs work 0) nothing)
            ∙ last (no_thirteen r (question h store beds costs work asked yes_twelve) (list_none r accepted count None-found))

        pub sheeted_rows_lem : (n ≡ 0 → ⊥) → RegionSheeted r clinic beds costs work (Ok k) beds_after costs_after after
        sheeted_rows_lem some_found =
            let allowed = list_some r accepted (found_count h store accepted gives) some_found in
            left ∙ last (no_refusal r (question h store beds costs work asked yes_twelve) allowed)
