use Rattle.std.proofs.Common.{ap}
use Rattle.std.proofs.lemmas.List.{length-replicate}
use Rattle.scanner.specs.Answers.{passed, number_read}
use Rattle.line_reader.proofs.Forms.{opening_there, opening_missing, space_missing, field_missing, field_there, end_missing, form_there, form_longer}
use Rattle.line_reader.proofs.read_form.Goals as goal

pub returns-in_err-at : goal.returns-in_err-at
returns-in_err-at g c = rw c.from_residual.ensures (opening_missing _ _ c.form_start_at.ensures (ap passed c.in_err-at.was))

pub loop-k-init : goal.loop-k-init
loop-k-init g c = opening_there _ _ c.form_start_at.ensures c.told-kinds (length-replicate _ _) (ap passed c.in_ok-at.was)

pub returns-in_err-begin : goal.returns-in_err-begin
returns-in_err-begin g c = rw c.from_residual-in_err-begin.ensures (space_missing c.loop-k.invariant c.loop-k-test.true c.space_at.ensures (ap passed c.in_err-begin.was))

pub returns-in_err-value : goal.returns-in_err-value
returns-in_err-value g c =
    rw c.from_residual-in_err-value.ensures
    (field_missing c.loop-k.invariant c.loop-k-test.true c.space_at.ensures (ap passed c.in_ok-begin.was) c.field_at.ensures (ap number_read c.in_err-value.was))

pub loop-k-preserved : goal.loop-k-preserved
loop-k-preserved g c =
    field_there c.loop-k.invariant c.loop-k-test.true c.space_at.ensures (ap passed c.in_ok-begin.was) c.field_at.ensures (ap number_read c.in_ok-value.was)

pub returns-in_err-end : goal.returns-in_err-end
returns-in_err-end g c = rw c.from_residual-in_err-end.ensures (end_missing c.loop-k.invariant c.loop-k-test.false c.form_end_at.ensures (ap passed c.in_err-end.was))

pub returns-then-line-end : goal.returns-then-line-end
returns-then-line-end g c = form_there c.loop-k.invariant c.loop-k-test.false c.form_end_at.ensures (ap passed c.in_ok-end.was) c.if-line-end.true

pub returns-else-line-end : goal.returns-else-line-end
returns-else-line-end g c = form_longer c.loop-k.invariant c.loop-k-test.false c.form_end_at.ensures (ap passed c.in_ok-end.was) c.if-line-end.false
