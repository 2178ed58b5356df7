use mathlib.Core.Path.{sym, ap, ◌∙◌}
use Rattle.held_region.specs.Refusals.{number_of}
use Rattle.reader.specs.Loading.{checks}
use Rattle.reader.specs.Fine.{accepted_fine, region_fine}
use Rattle.lent_reader.specs.Called.{file_accepted, file_refused}
use Rattle.lent_reader.proofs.read_call.Goals as goal

pub lay_region-requires : goal.lay_region-requires
lay_region-requires c = region_fine c.args.file.now c.load.result c.load.ensures c.in-Ok.is

pub returns-in-Err : goal.returns-in-Err
returns-in-Err c =
    let a = c.args in
    file_refused a.file.now a.patients.now a.tables.now a.entries.now a.res.now c.in-Err.refusal (c.refused.ensures.0 ∙ c.number.ensures)
    (ap number_of (sym c.in-Err.is) ∙ checks c.load.ensures) c.refused.ensures.1

pub returns-in-Ok : goal.returns-in-Ok
returns-in-Ok c =
    let a = c.args in
    file_accepted a.file.now a.patients.now a.tables.now a.entries.now a.res.now (accepted_fine a.file.now c.load.result c.load.ensures c.in-Ok.is)
    (c.load.ensures.says c.in-Ok.is) c.lay_region.ensures
