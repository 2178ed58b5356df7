-- Beds that are read one by one.
use mathlib.Core.Path.{◌≡◌, sym, ap, ap₂, ◌∙◌}
use Prim.Native.Nat.{◌≤◌}
use native.Mathlib.Decide.{dec_lt}
use native.Mathlib.Omega.{arith}
use lib.ListN.{set, length-take}
use lib.Seq.{ext_get_or, get_or-take, get_or-set_same, get_or-set_other}
use borrow.Author.Tests.{eq-eqb, ne_eqb, lt-ltb, le-ltb}
use Rattle.std.specs.Prelude.{◌+◌, ◌<◌, ◌&&◌}
use Rattle.definitions.specs.Basics.{ℕ, Bool, true, false, List, length, get_or, take, eqb, ltb, below, every}
use Rattle.definitions.specs.Syntax.{patient_at}
use Rattle.definitions.specs.Plans.{bed_of}
use Rattle.definitions.specs.Questions.{plan_fits}
use Rattle.lists.specs.Below.{same_tests}
use Rattle.bucket_words.specs.Words.{beds_at}
use Rattle.pricing.specs.Pricing.{PlanAsked}
use Rattle.bucket_words.specs.declared.PatientBucket.{PatientBucket}

-- The first s beds of a plan are those of a list.
pub record Begun (beds plan : List ℕ) (s : ℕ) : Type 0 where
  pub long : length plan ≡ 32
  pub same : (i : ℕ) → i < s → get_or plan i 0 ≡ get_or beds i 0

pub begun_more : (beds plan : List ℕ) (s : ℕ) → s < 32 → Begun beds plan s → length (set plan s (get_or beds s 0)) ≡ 32 → Begun beds (set plan s (get_or beds s 0)) (s + 1)
begun_more beds plan s h begun long = record { long = long; same = λ i l. go i l (dec_lt i s) }
  where
    go : (i : ℕ) → i < s + 1 → Dec (i < s) → get_or (set plan s (get_or beds s 0)) i 0 ≡ get_or beds i 0
    go i l (yes m) = get_or-set_other plan s i (get_or beds s 0) 0 (λ e. omega arith) ∙ begun.same i m
    go i l (no m) =
        let same : i ≡ s = omega arith in
        ap (λ j. get_or (set plan s (get_or beds s 0)) j 0) same ∙ get_or-set_same plan s (get_or beds s 0) 0 (omega (arith, begun.long)) ∙ ap (λ j. get_or beds j 0) (sym same)

pub begun_done : (beds plan : List ℕ) (s : ℕ) → length beds ≤ s → length beds ≤ 32 → Begun beds plan s → take (length beds) plan ≡ beds
begun_done beds plan s end room begun =
    let long : length (take (length beds) plan) ≡ length beds = omega (arith, length-take (length beds) plan, begun.long) in
    ext_get_or 0 (take (length beds) plan) beds long (λ i l. get_or-take (length beds) plan i 0 (omega arith) ∙ begun.same i (omega arith))

-- Question 14, of the words and the beds.
abbrev pub bed_fits : List PatientBucket → List ℕ → ℕ → Bool
bed_fits patients beds s = ltb (get_or beds s 0) (beds_at patients s)

pub plan_asked : (patients : List PatientBucket) (v : ℕ) (beds : List ℕ) {answer : Bool} → answer ≡ (eqb (length beds) v && every (bed_fits patients beds) (below v)) → PlanAsked patients v beds answer
unfolding plan_fits
plan_asked patients v beds e r counts counted all =
    e ∙ ap₂ (λ n fit. eqb (length beds) n && fit) counted
    (same_tests (bed_fits patients beds) (λ s. ltb (bed_of beds s) (patient_at r s).bed_count) v (λ s l. ap (ltb (get_or beds s 0)) (counts s l))
    ∙ ap (λ n. every (λ s. ltb (bed_of beds s) (patient_at r s).bed_count) (below n)) all)

module _ (patients : List PatientBucket) (v : ℕ) (beds : List ℕ) where
  pub not_counted : (length beds ≡ v → ⊥) → PlanAsked patients v beds false
  not_counted h = plan_asked patients v beds (sym (ap (λ b. b && every (bed_fits patients beds) (below v)) (ne_eqb (length beds) v h)))

  pub counted : {answer : Bool} → length beds ≡ v → answer ≡ every (bed_fits patients beds) (below v) → PlanAsked patients v beds answer
  counted h e = plan_asked patients v beds (e ∙ sym (ap (λ b. b && every (bed_fits patients beds) (below v)) (eq-eqb (length beds) v h)))

-- One bed, from what was read.
module _ (patients : List PatientBucket) (beds : List ℕ) (s : ℕ) {count bed : ℕ} (is : count ≡ beds_at patients s) (has : bed ≡ get_or beds s 0) where
  pub bed_no : count ≤ bed → bed_fits patients beds s ≡ false
  bed_no h = le-ltb (get_or beds s 0) (beds_at patients s) (omega (arith, is, has))

  pub bed_yes : bed < count → bed_fits patients beds s ≡ true
  bed_yes h = lt-ltb (get_or beds s 0) (beds_at patients s) (omega (arith, is, has))
