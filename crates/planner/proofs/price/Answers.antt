use Rattle.std.proofs.Common.{sym, ap, ◌∙◌, ◌∷◌}
use Rattle.std.proofs.lemmas.Result.{err_from_is_err_and}
use Rattle.definitions.specs.Basics.{[]}
use Rattle.definitions.specs.Questions.{region_of, plan_fits, asked_by_price}
use Rattle.definitions.specs.Outcomes.{price_outcome}
use Rattle.held_region.specs.Refusals.{number_of}
use Rattle.reader.specs.Loading.{checks}
use Rattle.reader.specs.Fine.{accepted_fine, region_fine}
use Rattle.region_answers.specs.Prices.{region_price, price_accepted}
use Rattle.planner.proofs.Refused.{refused_price}
use Rattle.planner.proofs.price.Goals as goal

pub price_region-requires : goal.price_region-requires
price_region-requires c = region_fine c.args.file.now c.load.result c.load.ensures c.in_ok-priced.was

pub returns-in_err-priced : goal.returns-in_err-priced
returns-in_err-priced c =
    let p = err_from_is_err_and c.from_residual.result c.from_residual.ensures.1 in
    rw (p.1, p.2) (refused_price _ _ (ap number_of (sym c.in_err-priced.was) ∙ checks c.load.ensures) c.args.plan.now)

pub returns : goal.returns
unfolding price_outcome asked_by_price
returns c =
    let fine = c.in_ok-priced.was in
    let a = c.args in
    let checked = accepted_fine a.file.now c.load.result c.load.ensures fine in
    c.price_region.ensures ∙ ap (λ r. region_price r a.plan.now) (c.load.ensures.says fine)
    ∙ sym (price_accepted a.file.now a.plan.now ((14, plan_fits (region_of a.file.now) a.plan.now) ∷ []) checked)
