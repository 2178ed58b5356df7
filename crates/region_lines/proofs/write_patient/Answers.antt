use Rattle.region_lines.specs.Spelled.{patient_codes}
use Rattle.region_lines.proofs.write_patient.Goals as goal

pub write_form-requires : goal.write_form-requires
write_form-requires c =
    rw (patient_codes c.args.patient _ _ c.requires.0 c.code_of-parent.ensures c.code_of-fixed.ensures) at c.requires.1

pub returns : goal.returns
returns c =
    rw (patient_codes c.args.patient _ _ c.requires.0 c.code_of-parent.ensures c.code_of-fixed.ensures) c.write_form.ensures
