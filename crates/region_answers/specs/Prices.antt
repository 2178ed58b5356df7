-- What price gives, of a held region and of a file.
use Rattle.std.proofs.Common.{sym, ◌∙◌, arith, get_or-take, eqb-true, ltb-true, ◌<◌, ◌≡◌, ◌∷◌, ◌++◌}
use Rattle.std.proofs.Math.Path.{ap}
use Rattle.definitions.specs.Basics.{ℕ, suc, true, List, [], length, take, eqb}
use Rattle.definitions.specs.Syntax as Said
use Rattle.definitions.specs.Plans.{Plan, bed_of, total}
use Rattle.definitions.specs.Questions.{Asked, first_no, region_of, asked_by_check, check_of, plan_fits}
use Rattle.definitions.specs.Outcomes.{PriceOutcome, priced, price_found}
use Rattle.lists.specs.Tests.{both}
use Rattle.lists.specs.Below.{every_place}
use Rattle.theorems.specs.Accepted.{Accepted, patients_counted_lem}
use Rattle.theorems.specs.Refusals.{after_check, refused_before}
use Rattle.buckets.specs.Terms.{Fitting}
use Rattle.std.specs.Prelude.{Option, Result}
use Rattle.answers.specs.declared.PriceError.{PriceError}
use Rattle.answers.specs.Answers.{not_allowed, priced_outcome}

-- What price gives once questions 1 to 10 are answered yes.
abbrev pub region_price : Said.Region → Plan → PriceOutcome
region_price r plan = priced (first_no ((14, plan_fits r plan) ∷ [])) (total r plan)

-- The same of the file that a held region holds.
abbrev pub RegionPriced : Said.Region → Plan → Result (Option ℕ) PriceError → Type 0
RegionPriced r plan answer = priced_outcome answer ≡ region_price r plan

-- A plan that fits, as the first beds of a longer list.
pub fitting : (r : Said.Region) (plan beds : List ℕ) → Accepted r → plan_fits r plan ≡ true → take (length plan) beds ≡ plan → Fitting r beds
unfolding plan_fits
fitting r plan beds accepted fits same s h =
    let (long, each) = both (eqb (length plan) r.patient_count) fits in
    let all = eqb-true (length plan) r.patient_count long in
    let inside : s < length plan = omega (arith, patients_counted_lem r accepted) in
    let bed : bed_of plan s ≡ bed_of beds s = ap (λ l. bed_of l s) (sym same) ∙ get_or-take (length plan) beds s 0 inside in
    let below = ltb-true (bed_of plan s) _ (every_place _ (length r.patients) s each h) in
    omega (arith, bed, below)

-- What price gives once check's questions are answered, by what is asked later.
module _ (file : List ℕ) (plan : Plan) (late : Asked) where
  pub price_accepted : check_of file ≡ 0 → price_found file plan (asked_by_check file ++ late) ≡ priced (first_no late) (total (region_of file) plan)
  unfolding price_found
  price_accepted e = ap (λ n. priced n (total (region_of file) plan)) (after_check file late e)

  pub price_not_accepted : (q : ℕ) → check_of file ≡ suc q → price_found file plan (asked_by_check file ++ late) ≡ not_allowed (check_of file)
  unfolding price_found
  price_not_accepted q e = ap (λ n. priced n (total (region_of file) plan)) (refused_before file late q e) ∙ ap not_allowed (sym e)
