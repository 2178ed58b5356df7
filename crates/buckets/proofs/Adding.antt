-- A term put in front of its bucket.
use mathlib.Core.Path.{◌≡◌, sym, ap, ◌∙◌}
use native.Mathlib.Decide.{ℕ_discrete}
use native.Mathlib.Omega.{arith}
use lib.ListN.{get_or, set, length-set}
use lib.Seq.{get_or-set_same, get_or-set_other}
use Prim.Native.Nat.{ℕ, ◌+◌, ◌^◌, ◌<◌}
use mathlib.Core.List.{List}
use Rattle.held_region.specs.declared.Table.{Table}
use Rattle.bucket_words.specs.declared.PatientBucket.{PatientBucket}
use Rattle.bucket_words.specs.declared.TermMember.{TermMember}
use Rattle.bucket_words.specs.declared.TableTerm.{TableTerm}
use Rattle.bucket_words.specs.Words.{no_bucket, no_term, beds_at, first_bed_at, bed_end_at, least_at, first_at}
use Rattle.buckets.specs.Least.{least_number}
use Rattle.buckets.specs.Written.{MembersWritten, last_of, TermKnown, TermAdded}

module _ {store : List ℕ} {t : Table} {k start : ℕ} {patients : List PatientBucket} {before : List TableTerm} (known : TermKnown store t k start patients before)
    {written : List TermMember} (w : MembersWritten patients t written) {least : ℕ} (is : least ≡ least_number store start (start + t.entries)) where
  abbrev bucket : ℕ → PatientBucket
  bucket s = record { beds = beds_at patients s; first_bed = first_bed_at patients s; bed_end = bed_end_at patients s; least = least_at patients s + least; first_term = k }

  abbrev term : ℕ → TableTerm
  term s = record { start = start; next = first_at patients s; members = written }

  abbrev s : ℕ
  s = last_of t

  abbrev counted : List PatientBucket
  counted = set patients s (bucket s)

  abbrev after : List TableTerm
  after = set before k (term s)

  bucket_here : get_or counted s no_bucket ≡ bucket s
  bucket_here = get_or-set_same patients s (bucket s) no_bucket (omega (arith, known.wide, known.last.patient))

  bucket_other : (q : ℕ) → (q ≡ s → ⊥) → get_or counted q no_bucket ≡ get_or patients q no_bucket
  bucket_other q n = get_or-set_other patients s q (bucket s) no_bucket n

  term_here : get_or after k no_term ≡ term s
  term_here = get_or-set_same before k (term s) no_term (omega (arith, known.term, known.terms_wide))

  term_added : TermAdded store t k start patients counted before after
  term_added =
      record {
        members = rw term_here w;
        starts = ap (λ (held : TableTerm). held.start) term_here;
        next = ap (λ (held : TableTerm). held.next) term_here;
        wide = length-set patients s (bucket s) ∙ known.wide;
        terms_wide = length-set before k (term s) ∙ known.terms_wide;
        others = λ l n. get_or-set_other before k l (term s) no_term n;
        beds = λ q. elim (ℕ_discrete q s) [ yes e ↦ ap (λ i. beds_at counted i) e ∙ ap (λ (b : PatientBucket). b.beds) bucket_here ∙ ap (beds_at patients) (sym e) | no n ↦ ap (λ (b : PatientBucket). b.beds) (bucket_other q n) ];
        first_bed = λ q. elim (ℕ_discrete q s) [ yes e ↦ ap (λ i. first_bed_at counted i) e ∙ ap (λ (b : PatientBucket). b.first_bed) bucket_here ∙ ap (first_bed_at patients) (sym e) | no n ↦ ap (λ (b : PatientBucket). b.first_bed) (bucket_other q n) ];
        bed_end = λ q. elim (ℕ_discrete q s) [ yes e ↦ ap (λ i. bed_end_at counted i) e ∙ ap (λ (b : PatientBucket). b.bed_end) bucket_here ∙ ap (bed_end_at patients) (sym e) | no n ↦ ap (λ (b : PatientBucket). b.bed_end) (bucket_other q n) ];
        least = ap (λ (b : PatientBucket). b.least) bucket_here ∙ ap (λ n. least_at patients s + n) is;
        first = ap (λ (b : PatientBucket). b.first_term) bucket_here;
        other_least = λ q n. ap (λ (b : PatientBucket). b.least) (bucket_other q n);
        other_first = λ q n. ap (λ (b : PatientBucket). b.first_term) (bucket_other q n);
      }

  -- As the code has it, with the member that it found.
  pub least_fits : {n : ℕ} → n ≡ last_of t → least_at patients n + least < 2 ^ 32
  least_fits e = omega (arith, ap (least_at patients) e, is, known.fits)

  pub term_put : {n : ℕ} → n ≡ last_of t → TermAdded store t k start patients (set patients n (bucket n)) before (set before k (term n))
  term_put e = rw e term_added
