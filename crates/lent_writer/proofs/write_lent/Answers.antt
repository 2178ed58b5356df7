use Rattle.lent_writer.specs.Answered.{call_answered}
use Rattle.lent_writer.proofs.write_lent.Goals as goal

pub returns : goal.returns
returns c =
    let stored = c in
    let answered = stored in
    let a = answered.args in
    call_answered a.patients.now a.tables.now a.entries.now a.m a.output.now a.res.now answered.answer_lent-written.ensures stored.store_result.ensures
