use Rattle.std.proofs.Common.{sym, ap, ◌∙◌}
use Rattle.std.proofs.lemmas.Result.{err_from_is_err_and}
use Rattle.definitions.specs.Basics.{length}
use Rattle.definitions.specs.Syntax.{patients_of}
use Rattle.definitions.specs.Sheets.{sheet_of}
use Rattle.definitions.specs.Questions.{areas_long_enough}
use Rattle.definitions.specs.Outcomes.{found_by, outcome_of}
use Rattle.held_region.specs.Refusals.{number_of}
use Rattle.reader.specs.Loading.{checks}
use Rattle.reader.specs.Fine.{accepted_fine, region_fine}
use Rattle.region_answers.specs.Found.{accepted_entry}
use Rattle.clinic_sheet.specs.Sheets.{late_asked, sheet_outcome_lem}
use Rattle.planner.proofs.Refused.{refused_sheet}
use Rattle.planner.proofs.sheet.Goals as goal

pub sheet_loaded-requires : goal.sheet_loaded-requires
sheet_loaded-requires c = region_fine c.args.file.now c.load.result c.load.ensures c.in_ok-accepted.was

pub returns-in_err-accepted : goal.returns-in_err-accepted
returns-in_err-accepted c =
    let a = c.args in
    let p = err_from_is_err_and c.from_residual.result c.from_residual.ensures.1 in
    rw (p.1, p.2) (refused_sheet _ _ (ap number_of (sym c.in_err-accepted.was) ∙ checks c.load.ensures) a.clinic a.beds.now a.costs.now a.work.now)

pub returns : goal.returns
returns c =
    let a = c.args in
    let fine = c.in_ok-accepted.was in
    c.sheet_loaded.ensures
    ∙ ap (λ r. outcome_of (found_by (late_asked r a.clinic (areas_long_enough r a.beds.now a.costs.now a.work.now)) (length (patients_of r a.clinic)) (sheet_of r a.clinic)) a.beds.now a.costs.now a.work.now) (c.load.ensures.says fine)
    ∙ accepted_entry _ _ a.beds.now a.costs.now a.work.now a.file.now _ (accepted_fine a.file.now c.load.result c.load.ensures fine)
    ∙ sheet_outcome_lem a.file.now a.clinic a.beds.now a.costs.now a.work.now
