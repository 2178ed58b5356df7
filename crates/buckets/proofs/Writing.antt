-- The patients, written one after the other.
use mathlib.Core.Path.{◌≡◌, refl, sym, ap, ◌∙◌}
use native.Mathlib.Decide.{ℕ_discrete}
use native.Mathlib.Omega.{arith}
use lib.ListN.{get_or, set, replicate, length-set}
use lib.Seq.{get_or-set_same, get_or-set_other}
use Prim.Native.Nat.{ℕ, zero, suc, ◌+◌, ◌<◌}
use mathlib.Core.List.{List}
use Rattle.held_region.specs.declared.Patient.{Patient}
use Rattle.held_region.specs.Meaning.{patient_of, no_patient}
use Rattle.bucket_words.specs.declared.PatientBucket.{PatientBucket}
use Rattle.bucket_words.specs.Words.{no_bucket, least_at}
use Rattle.buckets.specs.Permitted.{first_permitted, permitted_end}
use Rattle.buckets.specs.Written.{PatientsWritten}

-- Before any patient no bucket has a least number.
pub none_least : (b : PatientBucket) → b.least ≡ 0 → (n s : ℕ) → least_at (replicate n b) s ≡ 0
none_least b e zero s = refl
none_least b e (suc n) zero = e
none_least b e (suc n) (suc s) = none_least b e n s

-- One more patient.
module _ (patients : List Patient) (before : List PatientBucket) (s : ℕ) (h : s < 32) (written : PatientsWritten patients s before) where
  abbrev bucket : PatientBucket
  bucket = record {
    beds = (get_or patients s no_patient).beds;
    first_bed = first_permitted (patient_of (get_or patients s no_patient));
    bed_end = permitted_end (patient_of (get_or patients s no_patient));
    least = 0;
    first_term = 64;
  }

  abbrev after : List PatientBucket
  after = set before s bucket

  here_at : (q : ℕ) → q ≡ s → get_or after q no_bucket ≡ bucket
  here_at q e = ap (λ i. get_or after i no_bucket) e ∙ get_or-set_same before s bucket no_bucket (omega (arith, written.wide))

  other : (q : ℕ) → (q ≡ s → ⊥) → get_or after q no_bucket ≡ get_or before q no_bucket
  other q n = get_or-set_other before s q bucket no_bucket n

  pub patients_more : PatientsWritten patients (s + 1) after
  patients_more = record {
    wide = length-set before s bucket ∙ written.wide;
    beds = λ q l. elim (ℕ_discrete q s) [ yes e ↦ ap (λ (b : PatientBucket). b.beds) (here_at q e) ∙ ap (λ i. (get_or patients i no_patient).beds) (sym e) | no n ↦ ap (λ (b : PatientBucket). b.beds) (other q n) ∙ written.beds q (omega (arith, n)) ];
    first_bed = λ q l. elim (ℕ_discrete q s) [ yes e ↦ ap (λ (b : PatientBucket). b.first_bed) (here_at q e) ∙ ap (λ i. first_permitted (patient_of (get_or patients i no_patient))) (sym e) | no n ↦ ap (λ (b : PatientBucket). b.first_bed) (other q n) ∙ written.first_bed q (omega (arith, n)) ];
    bed_end = λ q l. elim (ℕ_discrete q s) [ yes e ↦ ap (λ (b : PatientBucket). b.bed_end) (here_at q e) ∙ ap (λ i. permitted_end (patient_of (get_or patients i no_patient))) (sym e) | no n ↦ ap (λ (b : PatientBucket). b.bed_end) (other q n) ∙ written.bed_end q (omega (arith, n)) ];
    least = λ q. elim (ℕ_discrete q s) [ yes e ↦ ap (λ (b : PatientBucket). b.least) (here_at q e) | no n ↦ ap (λ (b : PatientBucket). b.least) (other q n) ∙ written.least q ];
    first = λ q l. elim (ℕ_discrete q s) [ yes e ↦ ap (λ (b : PatientBucket). b.first_term) (here_at q e) | no n ↦ ap (λ (b : PatientBucket). b.first_term) (other q n) ∙ written.first q (omega (arith, n)) ];
  }
