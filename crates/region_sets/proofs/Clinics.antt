-- Clinic numbers: those beyond the limits have no patients, all others are 32-bit numbers.
use mathlib.Core.Path.{◌≡◌, sym, ◌∙◌}
use native.Mathlib.Omega.{arith}
use Rattle.std.specs.Prelude.{◌<◌}
use Rattle.definitions.specs.Basics.{ℕ, true, false, List}
use Rattle.definitions.specs.Limits.{limits, within, clinic}
use Rattle.definitions.specs.Syntax.{patients_of}
use Rattle.theorems.specs.Accepted.{at_most}
use Rattle.theorems.specs.Clinics.{no_patients_lem}
use Rattle.patient_set.specs.Sets.{members}
use Rattle.patient_set.specs.Laws.{members_empty}
use Rattle.held_region.specs.declared.Region.{Region}
use Rattle.held_region.specs.Meaning.{said}
use Rattle.held_region.specs.Sound.{Sound, patients_sound}

-- The set of such a clinic is empty.
pub nobody_held : (h : Region) (c : ℕ) → Sound h → within clinic c ≡ false → (store : List ℕ) → members 0 ≡ patients_of (said h store) c
nobody_held h c sound outside store = members_empty ∙ sym (no_patients_lem (said h store) c (patients_sound h sound store) outside)

-- A clinic's number is a 32-bit number.
pub clinic_narrow : (c : ℕ) → within clinic c ≡ true → c < 4_294_967_296
unfolding limits
clinic_narrow c inside = omega (arith, at_most clinic c inside)
