-- A plan is priced over the buckets of a held region as over what it says.
use mathlib.Core.Path.{◌≡◌, refl, sym, ap, ap₂, ◌∙◌}
use Prim.Native.Nat.{◌≤◌}
use native.Mathlib.Omega.{arith}
use borrow.Author.Tests.{eqb-true}
use Rattle.std.specs.Prelude.{None, Some, Ok, Err, ◌∷◌}
use Rattle.definitions.specs.Basics.{ℕ, true, false, Bool, List, [], length, take, eqb}
use Rattle.definitions.specs.Syntax as Said
use Rattle.definitions.specs.Plans.{total}
use Rattle.definitions.specs.Questions.{first_no, plan_fits}
use Rattle.definitions.specs.Outcomes.{priced}
use Rattle.lists.specs.Tests.{both}
use Rattle.theorems.specs.Accepted.{Accepted}
use Rattle.held_region.specs.declared.Region.{Region}
use Rattle.held_region.specs.Meaning.{said}
use Rattle.held_region.specs.Asked.{patients_said_lem}
use Rattle.buckets.specs.Terms.{Prepared}
use Rattle.bucket_words.specs.declared.PatientBucket.{PatientBucket}
use Rattle.bucket_words.specs.declared.TableTerm.{TableTerm}
use Rattle.pricing.specs.Pricing.{Cost, cost_in, AsksAll, GivesAll, PlanAsked}
use Rattle.answers.specs.declared.PriceError.TheVariants.{Misfit}
use Rattle.answers.specs.Answers.{priced_outcome}
use Rattle.held_region.specs.Counts.{counts_few}
use Rattle.region_answers.specs.Prices.{RegionPriced, fitting}

-- A plan that fits is answered by its total, or by none.
priced_by : (cost : Cost) → priced 0 (cost_in cost) ≡ priced_outcome (Ok cost)
priced_by None = refl
priced_by (Some t) = refl

module _ (h : Region) (store : List ℕ) {patients : List PatientBucket} {terms : List TableTerm} (plan : List ℕ) (pre : Accepted (said h store))
    (prepared : Prepared (said h store) store patients terms) {answer : Bool} (asked : PlanAsked patients h.v plan answer) where
  abbrev r : Said.Region
  r = said h store

  fits_asked : answer ≡ plan_fits r plan
  unfolding said
  fits_asked = asked r (λ s l. prepared.beds s (omega (arith, patients_said_lem h store))) refl (sym (patients_said_lem h store))

  pub misfit_priced : answer ≡ false → RegionPriced r plan (Err Misfit)
  misfit_priced misfit = sym (ap (λ b. priced (first_no ((14, b) ∷ [])) (total r plan)) (sym fits_asked ∙ misfit))

  module _ (fit : answer ≡ true) where
    fits : plan_fits r plan ≡ true
    fits = sym fits_asked ∙ fit

    as_many : length plan ≡ h.v
    unfolding plan_fits said
    as_many = eqb-true (length plan) h.v (both (eqb (length plan) h.v) fits).0

    pub plan_short : length plan ≤ 32
    plan_short = omega (arith, as_many, (counts_few h store pre).0)

    module _ (beds : List ℕ) (same : take (length plan) beds ≡ plan) where
      pub asks_all : AsksAll store patients terms h.v beds
      asks_all = record {
        region = r;
        prepared = prepared;
        fits = fitting r plan beds pre fits same;
        all = sym (patients_said_lem h store);
        few = (counts_few h store pre).0;
      }

      pub fit_priced : (cost : Cost) → GivesAll store patients terms h.v beds cost → RegionPriced r plan (Ok cost)
      fit_priced cost gives =
          let is = gives r prepared (fitting r plan beds pre fits same) (sym (patients_said_lem h store)) in
          let whole = ap (λ n. take n beds) (sym as_many) ∙ same in
          sym (priced_by cost) ∙ sym (ap₂ (λ b t. priced (first_no ((14, b) ∷ [])) t) fits (sym (is ∙ ap (total r) whole)))
