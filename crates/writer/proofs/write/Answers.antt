use mathlib.Core.Path.{sym, ap, ◌∙◌}
use Rattle.std.proofs.lemmas.Result.{err_from_is_err_and}
use Rattle.held_region.specs.Refusals.{number_of}
use Rattle.writer.specs.Outcomes.{write_refused, write_accepted, write_placed}
use Rattle.writer.proofs.write.Goals as goal

pub write_accepted-requires : goal.write_accepted-requires
write_accepted-requires c = write_accepted c.args.region c.args.store.now c.args.output.now (ap number_of (sym c.in_ok-judge.was) ∙ c.judge.ensures)

pub returns-in_err-judge : goal.returns-in_err-judge
returns-in_err-judge c =
    let error = err_from_is_err_and c.from_residual.result c.from_residual.ensures.1 in
    rw (error.1, error.2) (write_refused c.args.region c.args.store.now c.args.output.now c.in_err-judge.field-0.0 c.in_err-judge.ensures)

pub returns : goal.returns
returns c =
    c.write_accepted.ensures
    ∙ write_placed c.args.region c.args.store.now c.args.output.now (write_accepted c.args.region c.args.store.now c.args.output.now (ap number_of (sym c.in_ok-judge.was) ∙ c.judge.ensures))
