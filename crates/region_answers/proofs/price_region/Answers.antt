use Rattle.held_region.specs.Counts.{counts_few}
use Rattle.region_answers.proofs.Prices.{misfit_priced, plan_short, asks_all, fit_priced}
use Rattle.region_answers.proofs.price_region.Goals as goal

pub plan_fits-requires : goal.plan_fits-requires
plan_fits-requires c = (counts_few _ _ c.requires).0

pub returns-then-not-plan_fits : goal.returns-then-not-plan_fits
returns-then-not-plan_fits c =
    misfit_priced _ _ c.args.plan.now c.requires c.prepare-buckets.ensures.prepared c.plan_fits.ensures (c.if-not-plan_fits.true)

pub plan_of-requires : goal.plan_of-requires
plan_of-requires c =
    plan_short _ _ c.args.plan.now c.requires c.prepare-buckets.ensures.prepared c.plan_fits.ensures (c.if-not-plan_fits.false)

pub total-requires : goal.total-requires
total-requires c =
    asks_all _ _ c.args.plan.now c.requires c.prepare-buckets.ensures.prepared c.plan_fits.ensures (c.if-not-plan_fits.false)
    c.plan_of.result.beds c.plan_of.ensures

pub returns : goal.returns
returns c =
    fit_priced _ _ c.args.plan.now c.requires c.prepare-buckets.ensures.prepared c.plan_fits.ensures (c.if-not-plan_fits.false)
    c.plan_of.result.beds c.plan_of.ensures c.total.result c.total.ensures
