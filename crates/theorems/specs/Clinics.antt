-- The patients of a clinic: who is one, whether there are any, which question 11 asks, and that a number beyond the limits of clinics has none.
use Rattle.std.specs.Prelude.{◌≡◌, refl}
use Rattle.std.proofs.Common.{sym, ap, ◌∙◌, true≢false, arith, eqb-true, ◌<◌, ◌&&◌, ◌∷◌}
use Rattle.std.proofs.Math.Decide.{dec_lt}
use Rattle.std.proofs.Math.ListN.{get_or-eq_default}
use Rattle.definitions.specs.Basics.{ℕ, Bool, true, false, not, List, [], length, eqb, any, is_empty, contains}
use Rattle.definitions.specs.Limits.{within, clinic, limits}
use Rattle.definitions.specs.Syntax as Said
use Rattle.definitions.specs.Syntax.{patient_numbers, patient_at, patients_of}
use Rattle.definitions.specs.Questions.{patients_within, clinic_present}
use Rattle.lists.specs.Members.{get_d_in}
use Rattle.lists.specs.Every.{any_out}
use Rattle.lists.specs.Keep.{any_kept, contains_keep}
use Rattle.lists.specs.Below.{by_number, contains_numbers}
use Rattle.theorems.specs.Accepted.{patient_right, at_most}

-- A patient is one of those of its clinic.
pub clinic_patient : (r : Said.Region) (c s : ℕ) → s < length r.patients → contains (patients_of r c) s ≡ eqb (patient_at r s).clinic c
unfolding patients_of
clinic_patient r c s h =
    contains_keep (λ q. eqb (patient_at r q).clinic c) (patient_numbers r) s
    ∙ ap (λ b. b && eqb (patient_at r s).clinic c) (contains_numbers 0 (length r.patients) s (omega arith) (omega arith))

-- There are 16 clinics.
pub clinic_few : (r : Said.Region) → patients_within r ≡ true → (s : ℕ) → (patient_at r s).clinic < 16
unfolding patient_at limits
clinic_few r fitting s = elim (dec_lt s (length r.patients)) [
  | yes h ↦ omega (arith, at_most clinic (patient_at r s).clinic (patient_right r fitting (get_d_in r.patients s _ h)).clinic_fits)
  | no h ↦ let none : (patient_at r s).clinic ≡ 0 = ap (λ (p : Said.Patient). p.clinic) (get_or-eq_default r.patients _ (omega arith)) in omega arith
]

-- Question 11 asks whether the clinic has patients.
pub present_asked : (r : Said.Region) (c : ℕ) → clinic_present r c ≡ not (is_empty (patients_of r c))
unfolding clinic_present patients_of patient_at
present_asked r c =
    let asked : Said.Patient → Bool = λ p. eqb p.clinic c in
    ap (any asked) (sym (by_number r.patients _)) ∙ any_kept asked (patient_at r) (patient_numbers r)

-- A number beyond the limits of clinics has none.
pub no_patients_lem : (r : Said.Region) (c : ℕ) → patients_within r ≡ true → within clinic c ≡ false → patients_of r c ≡ []
unfolding clinic_present
no_patients_lem r c fitting outside = go (patients_of r c) refl
  where
    go : (l : List ℕ) → patients_of r c ≡ l → l ≡ []
    go [] e = refl
    go (s ∷ l) e =
        let asked : clinic_present r c ≡ true = present_asked r c ∙ ap (λ m. not (is_empty m)) e in
        let (p, k, same) = any_out (λ p. eqb p.clinic c) r.patients asked in
        absurd (true≢false (sym (patient_right r fitting k).clinic_fits ∙ ap (within clinic) (eqb-true p.clinic c same) ∙ outside))
