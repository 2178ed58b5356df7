use Rattle.std.proofs.Common.{sym, ap, ◌∙◌}
use Rattle.std.proofs.lemmas.Result.{err_from_is_err_and}
use Rattle.definitions.specs.Plans.{list_of}
use Rattle.definitions.specs.Questions.{areas_long_enough}
use Rattle.definitions.specs.Outcomes.{found_by, outcome_of}
use Rattle.held_region.specs.Refusals.{number_of}
use Rattle.reader.specs.Loading.{checks}
use Rattle.reader.specs.Fine.{accepted_fine, region_fine}
use Rattle.region_answers.specs.Found.{last_asked, accepted_entry}
use Rattle.region_answers.specs.Lists.{list_outcome_lem}
use Rattle.planner.proofs.Refused.{refused_list}
use Rattle.planner.proofs.list.Goals as goal

pub list_loaded-requires : goal.list_loaded-requires
list_loaded-requires c = region_fine c.args.file.now c.load.result c.load.ensures c.in_ok-region.was

pub returns-in_err-region : goal.returns-in_err-region
returns-in_err-region c =
    let a = c.args in
    let p = err_from_is_err_and c.from_residual.result c.from_residual.ensures.1 in
    rw (p.1, p.2) (refused_list _ _ (ap number_of (sym c.in_err-region.was) ∙ checks c.load.ensures) a.beds.now a.costs.now a.work.now)

pub returns : goal.returns
returns c =
    let a = c.args in
    let fine = c.in_ok-region.was in
    c.list_loaded.ensures
    ∙ ap (λ r. outcome_of (found_by (last_asked r (areas_long_enough r a.beds.now a.costs.now a.work.now)) r.patient_count (list_of r)) a.beds.now a.costs.now a.work.now) (c.load.ensures.says fine)
    ∙ accepted_entry _ _ a.beds.now a.costs.now a.work.now a.file.now _ (accepted_fine a.file.now c.load.result c.load.ensures fine)
    ∙ list_outcome_lem a.file.now a.beds.now a.costs.now a.work.now
