use mathlib.Core.Path.{sym, ap, ◌∙◌}
use Rattle.held_region.specs.Refusals.{number_of}
use Rattle.reader.specs.Loading.{checks}
use Rattle.reader.specs.Fine.{accepted_fine, region_fine}
use Rattle.joiner.specs.Outcomes.{once_accepted, first_refused_lem, first_accepted}
use Rattle.joiner.proofs.join.Goals as goal

pub join_second-requires : goal.join_second-requires
join_second-requires c = region_fine c.args.first.now c.load.result c.load.ensures c.in-Ok.is

pub returns-in-Err : goal.returns-in-Err
returns-in-Err c =
    first_refused_lem c.args.first.now c.args.second.now c.args.output.now c.in-Err.refusal (ap number_of (sym c.in-Err.is) ∙ checks c.load.ensures)

pub returns-in-Ok : goal.returns-in-Ok
returns-in-Ok c =
    c.join_second.ensures ∙ ap (λ r. once_accepted r c.args.second.now c.args.output.now) (c.load.ensures.says c.in-Ok.is)
    ∙ first_accepted c.args.first.now c.args.second.now c.args.output.now (accepted_fine c.args.first.now c.load.result c.load.ensures c.in-Ok.is)
