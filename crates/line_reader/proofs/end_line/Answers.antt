use Rattle.std.proofs.Common.{sym, ap, ◌∙◌}
use Rattle.line_reader.specs.Forms.{end_said, end_form, values_read}
use Rattle.line_reader.proofs.Forms.{said_there, said_missing}
use Rattle.line_reader.proofs.end_line.Goals as goal

pub returns-in_err-sum : goal.returns-in_err-sum
returns-in_err-sum c = rw c.from_residual.ensures (said_missing end_said (end_form _) (sym (ap values_read c.in_err-sum.was) ∙ c.read_form.ensures))

pub returns : goal.returns
returns c = said_there end_said (end_form _) _ (sym (ap values_read c.in_ok-sum.was) ∙ c.read_form.ensures)
