-- The rows of a clinic's sheet: what is asked and what is given.
use Rattle.std.specs.Prelude.{◌≤◌, ◌≡◌}
use Rattle.definitions.specs.Basics.{ℕ, List, length}
use Rattle.definitions.specs.Syntax.{patients_of}
use Rattle.definitions.specs.Plans.{list_of}
use Rattle.definitions.specs.Sheets.{sheet_of}
use Rattle.theorems.specs.Accepted.{Accepted}
use Rattle.patient_set.specs.Sets.{members}
use Rattle.held_region.specs.declared.Region as Code
use Rattle.held_region.specs.Meaning.{said}
use Rattle.row_sums.specs.Sums.{list_at}

-- The list of what is said lies in the work area, and a set holds the patients of a clinic.
pub record Given (h : Code.Region) (store : List ℕ) (clinic n set : ℕ) (work : List ℕ) : Type 0 where
  pub list : list_at h.v n 0 work ≡ list_of (said h store)
  pub patients : members set ≡ patients_of (said h store) clinic

pub record Asks (h : Code.Region) (store : List ℕ) (n set : ℕ) (work : List ℕ) : Type 0 where
  pub accepted : Accepted (said h store)
  pub clinic : ℕ
  pub given : Given h store clinic n set work
  pub few : n ≤ 64
  pub long : 1_152 ≤ length work

-- The clinic's sheet lies in the second part of the work area, and the list still in the first.
pub record Gives (h : Code.Region) (store : List ℕ) (n set : ℕ) (work after : List ℕ) (k : ℕ) : Type 0 where
  pub count : k ≤ n
  pub long : length after ≡ length work
  pub list : list_at h.v n 0 after ≡ list_at h.v n 0 work
  pub sheet : (clinic : ℕ) → Given h store clinic n set work → list_at (length (members set)) k 1 after ≡ sheet_of (said h store) clinic
