-- The parts of a region's text: what is asked and what is given.
use Rattle.std.specs.Prelude.{◌≤◌, ◌-◌, ◌≡◌, ◌∷◌}
use Rattle.definitions.specs.Basics.{ℕ, suc, cond, List, [], flat_map, length, numbers_from, text}
use Rattle.definitions.specs.Limits.{limits, clinic}
use Rattle.definitions.specs.Syntax.{Region}
use Rattle.definitions.specs.Spelling.{decimal}
use Rattle.definitions.specs.Plans.{list_of}
use Rattle.definitions.specs.Sheets.{sheet_of}
use Rattle.definitions.specs.Questions.{first_no, clinic_present, plan_allowed}
use Rattle.definitions.specs.Output.{printed_rows, printed_answer}
use Rattle.theorems.specs.Accepted.{Accepted}
use Rattle.held_region.specs.declared.Region as Code
use Rattle.held_region.specs.Meaning.{said}
use Rattle.row_sums.specs.Sums.{list_at}
use Rattle.text_writer.specs.Wrote.{Room, Wrote}

-- A clinic's sheet as it is printed, where the clinic has patients.
unfoldable pub clinic_text : Region → ℕ → List ℕ
clinic_text r c = cond (clinic_present r c) (printed_rows (text "sheet" ∷ decimal c ∷ []) (sheet_of r c)) []

-- How many clinics there can be; the sheets of those from c on.
abbrev pub clinic_count : ℕ
clinic_count = suc (limits clinic).highest

unfoldable pub sheets_from : Region → ℕ → List ℕ
sheets_from r c = flat_map (clinic_text r) (numbers_from c (clinic_count - c))

-- The whole text, once questions 1 to 10 are answered yes.
unfoldable pub region_text : Region → List ℕ
region_text r = printed_answer (first_no ((13, plan_allowed r) ∷ [])) r

-- The list of an accepted region lies in the first part of the work area; afterwards it still does.
pub record Listed (h : Code.Region) (store : List ℕ) (n : ℕ) (work : List ℕ) : Type 0 where
  pub accepted : Accepted (said h store)
  pub few : n ≤ 64
  pub long : 1_152 ≤ length work
  pub list : list_at h.v n 0 work ≡ list_of (said h store)

pub record Kept (h : Code.Region) (n : ℕ) (work after : List ℕ) : Type 0 where
  pub long : length after ≡ length work
  pub list : list_at h.v n 0 after ≡ list_at h.v n 0 work

-- A clinic's sheet.
pub record AsksClinic (h : Code.Region) (store : List ℕ) (n clinic at : ℕ) (out work : List ℕ) : Type 0 where
  pub listed : Listed h store n work
  pub room : Room (clinic_text (said h store) clinic) at out

pub record GivesClinic (h : Code.Region) (store : List ℕ) (n clinic at : ℕ) (out work after work_after : List ℕ) (end : ℕ) : Type 0 where
  pub kept : Kept h n work work_after
  pub wrote : Wrote (clinic_text (said h store) clinic) at out after end

-- The sheets of all clinics.
pub record AsksSheets (h : Code.Region) (store : List ℕ) (n at : ℕ) (out work : List ℕ) : Type 0 where
  pub listed : Listed h store n work
  pub room : Room (sheets_from (said h store) 0) at out

abbrev pub GivesSheets : Code.Region → List ℕ → ℕ → List ℕ → List ℕ → ℕ → Type 0
GivesSheets h store at out after end = Wrote (sheets_from (said h store) 0) at out after end

-- The whole text.
pub record AsksText (h : Code.Region) (store out work : List ℕ) : Type 0 where
  pub accepted : Accepted (said h store)
  pub long : 1_152 ≤ length work
  pub room : Room (region_text (said h store)) 0 out

abbrev pub GivesText : Code.Region → List ℕ → List ℕ → List ℕ → ℕ → Type 0
GivesText h store out after end = Wrote (region_text (said h store)) 0 out after end
