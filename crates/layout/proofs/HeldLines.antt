-- The patients that are held, one line after the other.
use mathlib.Core.Path.{◌≡◌, refl, sym, ap, ◌∙◌}
use native.Mathlib.Omega.{arith}
use lib.ListN.{set, length-append, length-set}
use Rattle.std.specs.Prelude.{◌+◌, ◌-◌, ◌<◌, ◌∷◌, ◌++◌}
use Rattle.std.specs.Prelude as Code
use Rattle.definitions.specs.Basics.{ℕ, List, [], length, take, replicate}
use lib.ListN.{drop}
use Rattle.definitions.specs.Layout.{whole, patient_line}
use Rattle.held_region.specs.declared.Patient.{Patient}
use Rattle.held_region.specs.Meaning.{patient_of, no_patient}
use Rattle.line_reader.specs.Answers.{LineEnd, patient_read}
use Rattle.layout.specs.Taken.{taken_none, taken_more}
use Rattle.held_region.specs.FirstHeld.{held_none, held_more}
use Rattle.held_region.specs.HeldFrom.{none_said, HoldsPatient}
use Rattle.layout.specs.Reading.{PatientsSoFar}

pub patients_none : (s : List ℕ) (at : ℕ) → PatientsSoFar s at (replicate 32 no_patient) 0 at
patients_none s at = record { said = []; taken = taken_none; counted = refl; holds = held_none 32 HoldsPatient no_patient none_said (replicate 32 no_patient); wide = refl }

pub patients_more : (q : Patient) {s : List ℕ} {at : ℕ} {first after : List Patient} {count i end : ℕ} → PatientsSoFar s at first count i → LineEnd s i end → i < length s
    → patient_read (Code.Some q) ≡ whole patient_line (take (end - i) (drop i s)) → after ≡ set first count q → PatientsSoFar s at after (count + 1) end
patients_more q {first} {count} p e h line is = record {
  said = p.said ++ patient_of q ∷ [];
  taken = taken_more p.taken e h (sym line);
  counted = omega (arith, p.counted, length-append p.said (patient_of q ∷ []));
  holds = rw (is, p.counted) (held_more 32 HoldsPatient no_patient none_said first p.said q (patient_of q) p.wide p.holds refl);
  wide = ap length is ∙ length-set first count q ∙ p.wide;
}
