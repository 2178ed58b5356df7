-- What the entries answer of a file that is refused.
use Rattle.std.specs.Prelude.{◌≡◌, Err}
use Rattle.std.proofs.Common.{sym, ap, ◌∙◌, ◌∷◌}
use Rattle.definitions.specs.Basics.{ℕ, List, []}
use Rattle.definitions.specs.Questions.{region_of, check_of, plan_fits, asked_by_price}
use Rattle.definitions.specs.Outcomes.{list_outcome, sheet_outcome, price_outcome}
use Rattle.held_region.specs.declared.Refusal.{Refusal}
use Rattle.answers.specs.declared.ListError.TheVariants as Lists
use Rattle.answers.specs.declared.SheetError.TheVariants as Sheets
use Rattle.answers.specs.declared.PriceError.TheVariants as Prices
use Rattle.answers.specs.Answers.{refusal_number, not_allowed, listed_outcome, sheeted_outcome, priced_outcome}
use Rattle.answers.specs.Numbers.{refusal_number_lem}
use Rattle.region_answers.specs.Found.{refused_entry}
use Rattle.region_answers.specs.Lists.{list_outcome_lem}
use Rattle.region_answers.specs.Prices.{price_not_accepted}
use Rattle.clinic_sheet.specs.Sheets.{sheet_outcome_lem}

module _ (file : List ℕ) (refusal : Refusal) (number : refusal_number refusal ≡ check_of file) where
  pub refused_list : (beds costs work : List ℕ) → listed_outcome (Err (Lists.Refused refusal)) beds costs work ≡ list_outcome file beds costs work
  refused_list beds costs work = refused_entry _ _ beds costs work file _ refusal number ∙ list_outcome_lem file beds costs work

  pub refused_sheet : (clinic : ℕ) (beds costs work : List ℕ) → sheeted_outcome (Err (Sheets.Refused refusal)) beds costs work ≡ sheet_outcome file clinic beds costs work
  refused_sheet clinic beds costs work = refused_entry _ _ beds costs work file _ refusal number ∙ sheet_outcome_lem file clinic beds costs work

  pub refused_price : (plan : List ℕ) → priced_outcome (Err (Prices.Refused refusal)) ≡ price_outcome file plan
  unfolding price_outcome asked_by_price
  refused_price plan = ap not_allowed number ∙ sym (price_not_accepted file plan ((14, plan_fits (region_of file) plan) ∷ []) _ (sym number ∙ refusal_number_lem refusal))
