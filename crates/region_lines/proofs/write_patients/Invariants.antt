use mathlib.Core.List.{[], ◌∷◌}
use Rattle.definitions.specs.Spelling.{spell_patient}
use Rattle.text_writer.specs.Wrote.{Left}
use Rattle.text_writer.specs.Parts.{lines_from}
use Rattle.region_lines.specs.Spelled.{patients_said, patient_lines}
use Rattle.region_lines.proofs.write_patients.Given as goal

abbrev pub invariant-loop-s : goal.invariant-loop-s
invariant-loop-s l = Left (patient_lines l.region) l.at l.initial.out (lines_from spell_patient (patients_said l.region) l.s ∷ []) l.out l.next
