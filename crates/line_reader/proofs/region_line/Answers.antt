use Rattle.std.proofs.Common.{sym, ap, ◌∙◌}
use Rattle.line_reader.specs.Forms.{region_said, region_form, values_read}
use Rattle.line_reader.proofs.Forms.{said_there, said_missing}
use Rattle.line_reader.proofs.region_line.Goals as goal

pub returns-in_err-v : goal.returns-in_err-v
returns-in_err-v c = rw c.from_residual.ensures (said_missing region_said (region_form _) (sym (ap values_read c.in_err-v.was) ∙ c.read_form.ensures))

pub returns : goal.returns
returns c = said_there region_said (region_form _) _ (sym (ap values_read c.in_ok-v.was) ∙ c.read_form.ensures)
