use mathlib.Core.Path.{sym, ap, ◌∙◌}
use Rattle.held_region.specs.Meaning.{said}
use Rattle.held_region.specs.Refusals.{number_of}
use Rattle.reader.specs.Loading.{checks}
use Rattle.reader.specs.Fine.{accepted_fine, region_fine}
use Rattle.joiner.specs.Outcomes.{once_both, second_refused_lem, second_accepted}
use Rattle.joiner.proofs.join_second.Goals as goal

pub join_accepted-requires : goal.join_accepted-requires
join_accepted-requires c = (c.requires, region_fine c.args.second.now c.load.result c.load.ensures c.in-Ok.is)

pub returns-in-Err : goal.returns-in-Err
returns-in-Err c =
    second_refused_lem (said c.args.first c.args.store.now) c.args.second.now c.args.output.now c.in-Err.refusal (ap number_of (sym c.in-Err.is) ∙ checks c.load.ensures)

pub returns-in-Ok : goal.returns-in-Ok
returns-in-Ok c =
    let r = said c.args.first c.args.store.now in
    c.join_accepted.ensures ∙ ap (λ q. once_both r q c.args.output.now) (c.load.ensures.says c.in-Ok.is)
    ∙ second_accepted r c.args.second.now c.args.output.now (accepted_fine c.args.second.now c.load.result c.load.ensures c.in-Ok.is)
