-- What sheet gives of a loaded file.
use Rattle.std.proofs.Common.{sym, ap, append_assoc, ◌*◌, ◌≡◌, ◌∷◌, ◌++◌}
use Rattle.std.specs.Prelude.{Result, Ok, ◌≤◌}
use Rattle.definitions.specs.Basics.{ℕ, suc, refl, Bool, true, false, List, [], length}
use Rattle.definitions.specs.Syntax as Said
use Rattle.definitions.specs.Syntax.{patients_of}
use Rattle.definitions.specs.Sheets.{sheet_of}
use Rattle.definitions.specs.Questions.{Asked, first_no, entry_asks, region_of, clinic_present, areas_long_enough, asked_by_check, asked_by_sheet}
use Rattle.definitions.specs.Outcomes.{found_by, sheet_found, outcome_of, sheet_outcome}
use Rattle.theorems.proofs.SheetAreas.{rows_few}
use Rattle.held_region.specs.declared.Region.{Region}
use Rattle.held_region.specs.Meaning.{said}
use Rattle.sheets.specs.Sheets.{Given, Asks}
use Rattle.answers.specs.declared.SheetError.{SheetError}
use Rattle.answers.specs.Answers.{sheeted_outcome}
use Rattle.region_answers.specs.Found.{last_asked, outcome_with, AsksTwelve, asks_twelve}

-- The questions that sheet asks after check's.
abbrev pub late_asked : Said.Region → ℕ → Bool → Asked
late_asked r clinic long = (11, clinic_present r clinic) ∷ last_asked r long

-- The list lies in the work area, a set holds a clinic's patients, and the areas have room for m rows of V beds.
pub record AsksSheet (h : Region) (store : List ℕ) (n set : ℕ) (beds costs work : List ℕ) : Type 0 where
  pub asks : Asks h store n set work
  pub count : n ≤ h.m
  pub beds_long : h.m * h.v ≤ length beds
  pub costs_long : h.m ≤ length costs

-- The sheet of each such clinic is written out.
abbrev pub SheetWritten : Region → List ℕ → ℕ → ℕ → List ℕ → List ℕ → List ℕ → ℕ → List ℕ → List ℕ → List ℕ → Type 0
SheetWritten h store n set beds costs work k beds_after costs_after work_after =
    (clinic : ℕ) → Given h store clinic n set work
    → sheeted_outcome (Ok k) beds_after costs_after work_after ≡ outcome_with (length (patients_of (said h store) clinic)) (sheet_of (said h store) clinic) beds costs work 0

-- What sheet gives, of what a held region and its store say, once questions 1 to 10 are answered yes.
abbrev pub RegionSheeted : Said.Region → ℕ → List ℕ → List ℕ → List ℕ → Result ℕ SheetError → List ℕ → List ℕ → List ℕ → Type 0
RegionSheeted r clinic beds costs work answer beds_after costs_after work_after =
    sheeted_outcome answer beds_after costs_after work_after
    ≡ outcome_of (found_by (late_asked r clinic (areas_long_enough r beds costs work)) (length (patients_of r clinic)) (sheet_of r clinic)) beds costs work

-- The number, by the answer to 11.
module _ (r : Said.Region) (clinic : ℕ) (long : Bool) where
  pub no_eleven : clinic_present r clinic ≡ false → first_no (late_asked r clinic long) ≡ 11
  no_eleven e = ap (λ b. first_no ((11, b) ∷ last_asked r long)) e

  pub yes_eleven : clinic_present r clinic ≡ true → first_no (late_asked r clinic long) ≡ first_no (last_asked r long)
  yes_eleven e = ap (λ b. first_no ((11, b) ∷ last_asked r long)) e

-- Sheet asks 11 right after check's questions.
sheet_asks : (file : List ℕ) (clinic : ℕ) (long : Bool) → entry_asks (asked_by_sheet file clinic long) ≡ asked_by_check file ++ late_asked (region_of file) clinic long
unfolding asked_by_sheet
sheet_asks file clinic long = append_assoc (asked_by_check file) ((11, clinic_present (region_of file) clinic) ∷ []) (last_asked (region_of file) long)

-- What sheet finds, by the answer to 12; and what it gives of a file.
pub sheet_twelve : (file : List ℕ) (clinic : ℕ) → AsksTwelve file (λ long. sheet_found file clinic (entry_asks (asked_by_sheet file clinic long)))
unfolding sheet_found
sheet_twelve file clinic =
    let r = region_of file in
    let (q, refused) = refuses (clinic_present r clinic) in
    asks_twelve file (λ long. entry_asks (asked_by_sheet file clinic long)) (late_asked r clinic) (sheet_asks file clinic) (length (patients_of r clinic)) (sheet_of r clinic)
    (rows_few r clinic) q refused
  where
    refuses : (present : Bool) → (q : ℕ) × (first_no ((11, present) ∷ last_asked (region_of file) false) ≡ suc q)
    refuses true = (11, refl)
    refuses false = (10, refl)

pub sheet_outcome_lem : (file : List ℕ) (clinic : ℕ) (beds costs work : List ℕ) → let r = region_of file in
    outcome_of (found_by (asked_by_check file ++ late_asked r clinic (areas_long_enough r beds costs work)) (length (patients_of r clinic)) (sheet_of r clinic)) beds costs work
    ≡ sheet_outcome file clinic beds costs work
unfolding sheet_outcome sheet_found
sheet_outcome_lem file clinic beds costs work =
    let r = region_of file in
    ap (λ asked. outcome_of (found_by asked (length (patients_of r clinic)) (sheet_of r clinic)) beds costs work)
    (sym (sheet_asks file clinic (areas_long_enough r beds costs work)))
