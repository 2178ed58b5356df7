-- The fixed beds of a plan: each patient's bed is a permitted one, or the plan has no total.
use mathlib.Core.Path.{◌≡◌, sym, ap, ap₂, ◌∙◌}
use Prim.Native.Nat.{◌≤◌}
use native.Mathlib.Omega.{arith}
use borrow.Author.Tests.{le-leb, lt-leb}
use lib.Seq.{get_or-take}
use Rattle.std.specs.Prelude.{◌<◌, ◌&&◌}
use Rattle.definitions.specs.Basics.{ℕ, Bool, true, false, cond, none, List, length, take, leb, ltb, below, every}
use Rattle.definitions.specs.Syntax.{Region, patient_at}
use Rattle.definitions.specs.Plans.{Plan, bed_of, cost_over, total}
use Rattle.lists.specs.Below.{same_tests}
use Rattle.theorems.specs.Fixed.{permits, keeps_fixed, total_kept}
use Rattle.bucket_words.specs.Words.{first_bed_at, bed_end_at}
use Rattle.buckets.specs.Permitted.{permitted_is}
use Rattle.buckets.specs.Terms.{Fitting, Prepared}
use Rattle.pricing.specs.Pricing.{Cost, GivesTables, GivesAll, permitted_at, bed_permitted}
use Rattle.std.specs.Prelude.{None}
use Rattle.bucket_words.specs.declared.PatientBucket.{PatientBucket}
use Rattle.bucket_words.specs.declared.TableTerm.{TableTerm}

-- A bed, from what was read of the patient's words.
module _ (patients : List PatientBucket) (s bed : ℕ) {first : ℕ} (is : first ≡ first_bed_at patients s) where
  pub before_first : bed < first → leb first bed ≡ permitted_at patients s bed
  before_first h = lt-leb first bed h ∙ sym (ap (λ b. b && ltb bed (bed_end_at patients s)) (lt-leb (first_bed_at patients s) bed (omega (arith, is))))

  pub from_first : {end : ℕ} → first ≤ bed → end ≡ bed_end_at patients s → ltb bed end ≡ permitted_at patients s bed
  from_first h e = ap (ltb bed) e ∙ sym (ap (λ b. b && ltb bed (bed_end_at patients s)) (le-leb (first_bed_at patients s) bed (omega (arith, is))))

module _ {store : List ℕ} {patients : List PatientBucket} {terms : List TableTerm} {v : ℕ} (beds : Plan) (r : Region) (prepared : Prepared r store patients terms) (fits : Fitting r beds) (all : v ≡ length r.patients) where
  front : (s : ℕ) → s < length r.patients → bed_of (take v beds) s ≡ bed_of beds s
  front s h = get_or-take v beds s 0 (omega (arith, all))

  fixed_kept : keeps_fixed r (take v beds) ≡ every (bed_permitted patients beds) (below v)
  fixed_kept =
      same_tests _ (bed_permitted patients beds) (length r.patients) (λ s h.
      ap (permits r s) (front s h) ∙ permitted_is (patient_at r s) (bed_of beds s) (fits s h)
      ∙ ap₂ (λ first end. leb first (bed_of beds s) && ltb (bed_of beds s) end) (sym (prepared.first_bed s h)) (sym (prepared.bed_end s h)))
      ∙ ap (λ n. every (bed_permitted patients beds) (below n)) (sym all)

  -- Where each fixed bed is kept, the total is what the tables cost.
  total_is : total r (take v beds) ≡ cond (every (bed_permitted patients beds) (below v)) (cost_over r.tables r (take v beds)) none
  total_is =
      total_kept r (take v beds) (λ s h. omega (arith, front s h, fits s h))
      ∙ ap (λ b. cond b (cost_over r.tables r (take v beds)) none) fixed_kept

module _ {store : List ℕ} {patients : List PatientBucket} {terms : List TableTerm} {v : ℕ} (beds : Plan) {kept : Bool} (is : kept ≡ every (bed_permitted patients beds) (below v)) where
  pub total_forbidden : kept ≡ false → GivesAll store patients terms v beds None
  total_forbidden moved r prepared fits all = sym (total_is beds r prepared fits all ∙ ap (λ b. cond b (cost_over r.tables r (take v beds)) none) (sym is ∙ moved))

  pub total_allowed : (cost : Cost) → kept ≡ true → GivesTables store patients terms v beds cost → GivesAll store patients terms v beds cost
  total_allowed cost all_kept gives r prepared fits all =
      gives r prepared fits all ∙ sym (total_is beds r prepared fits all ∙ ap (λ b. cond b (cost_over r.tables r (take v beds)) none) (sym is ∙ all_kept))
