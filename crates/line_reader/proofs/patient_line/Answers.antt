use Rattle.std.proofs.Common.{sym, ap, ◌∙◌}
use Rattle.line_reader.specs.Forms.{patient_said, patient_form, values_read}
use Rattle.line_reader.proofs.Forms.{said_there, said_missing}
use Rattle.line_reader.proofs.patient_line.Goals as goal

pub returns-in_err-clinic : goal.returns-in_err-clinic
returns-in_err-clinic c = rw c.from_residual.ensures (said_missing patient_said (patient_form _) (sym (ap values_read c.in_err-clinic.was) ∙ c.read_form.ensures))

pub returns : goal.returns
returns c = rw (c.said_by.ensures, c.said_by-2.ensures) (said_there patient_said (patient_form _) _ (sym (ap values_read c.in_ok-clinic.was) ∙ c.read_form.ensures))
