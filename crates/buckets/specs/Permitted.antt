-- The permitted beds of a patient, as a range: all that there are, or the fixed one.
use Rattle.std.specs.Prelude.{◌≡◌, refl, ◌≤◌}
use Rattle.std.proofs.Common.{sym, le-leb, leb-true, lt-ltb, ltb-true, eq-eqb, eqb-true, ◌+◌, ◌<◌, ◌&&◌}
use native.Mathlib.Omega.{arith}
use Rattle.definitions.specs.Basics.{ℕ, Option, none, some, none_or, length, eqb, leb, ltb}
use Rattle.definitions.specs.Syntax.{Patient, Region, patient_at}
use Rattle.lists.specs.Tests.{both, join, same_answer}
use Rattle.lists.specs.Members.{get_d_in}
use Rattle.theorems.specs.Accepted.{Accepted, patient_right, beds_some}

-- The first of them, and the end behind the last, from a patient's fixed bed and count of beds.
abbrev pub first_of : Option ℕ → ℕ
first_of none = 0
first_of (some bed) = bed

abbrev pub end_of : Option ℕ → ℕ → ℕ
end_of none count = count
end_of (some bed) count = bed + 1

abbrev pub first_permitted : Patient → ℕ
first_permitted p = first_of p.fixed_bed

abbrev pub permitted_end : Patient → ℕ
permitted_end p = end_of p.fixed_bed p.bed_count

-- A bed is permitted where it lies between them.
range_is : (o : Option ℕ) (count bed : ℕ) → bed < count → none_or (eqb bed) o ≡ (leb (first_of o) bed && ltb bed (end_of o count))
range_is none count bed h = sym (rw (le-leb 0 bed (omega arith), lt-ltb bed count h) refl)
range_is (some fixed) count bed h = same_answer
    (λ e. let same = eqb-true bed fixed e in join (le-leb fixed bed (omega arith)) (lt-ltb bed (fixed + 1) (omega arith)))
    (λ e. let (low, high) = both (leb fixed bed) e in eq-eqb bed fixed (omega (arith, leb-true fixed bed low, ltb-true bed (fixed + 1) high)))

pub permitted_is : (p : Patient) (bed : ℕ) → bed < p.bed_count → none_or (eqb bed) p.fixed_bed ≡ (leb (first_permitted p) bed && ltb bed (permitted_end p))
permitted_is p bed h = range_is p.fixed_bed p.bed_count bed h

-- In an accepted region there is one, and all are among the patient's beds.
module _ (r : Region) (a : Accepted r) (s : ℕ) (known : s < length r.patients) where
  pub permitted_some : first_permitted (patient_at r s) < permitted_end (patient_at r s)
  permitted_some = go (patient_at r s).fixed_bed
    where
      go : (o : Option ℕ) → first_of o < end_of o (patient_at r s).bed_count
      go none = omega (arith, beds_some r a s known)
      go (some bed) = omega arith

  pub permitted_most : permitted_end (patient_at r s) ≤ (patient_at r s).bed_count
  unfolding patient_at
  permitted_most = go (patient_at r s).fixed_bed (patient_right r a.patients_fit (get_d_in r.patients s _ known)).fixed_fits
    where
      go : (o : Option ℕ) → ((bed : ℕ) → o ≡ some bed → bed < (patient_at r s).bed_count) → end_of o (patient_at r s).bed_count ≤ (patient_at r s).bed_count
      go none below = omega arith
      go (some bed) below = omega (arith, below bed refl)
