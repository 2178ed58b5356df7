-- What is read of a file, and what is held of it.
use Rattle.std.specs.Prelude.{◌≤◌, max, drop, ◌≡◌}
use Rattle.definitions.specs.Basics.{ℕ, some, List, length}
use Rattle.definitions.specs.Syntax as Said
use Rattle.definitions.specs.Layout.{many, whole, lines, patient_line}
use Rattle.held_region.specs.declared.Patient.{Patient}
use Rattle.held_region.specs.HeldFrom.{HeldPatients}
use Rattle.layout.specs.declared.patients.Patients.{Patients}
use Rattle.layout.specs.Taken.{Taken}

-- On the way: the lines up to place i are taken, and the first 32 patients that they say are held.
pub record PatientsSoFar (s : List ℕ) (at : ℕ) (first : List Patient) (count i : ℕ) : Type 0 where
  pub said : List Said.Patient
  pub taken : Taken (whole patient_line) s at said i
  pub counted : count ≡ length said
  pub holds : HeldPatients first said
  pub wide : length first ≡ 32

-- The patients that the lines from a place on say, and the place of the lines after them.
pub record PatientLines (s : List ℕ) (at : ℕ) (r : Patients) : Type 0 where
  pub said : List Said.Patient
  pub read : many (whole patient_line) (lines (drop at s)) ≡ some (said, lines (drop r.next s))
  pub counted : r.count ≡ length said
  pub holds : HeldPatients r.first said
  pub ahead : at ≤ r.next
  pub within : r.next ≤ max at (length s)
