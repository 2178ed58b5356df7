use Rattle.patient_set.specs.Sets.{members, left_in}
use Rattle.sheets.proofs.Parts.{Taking}
use Rattle.sheets.proofs.clinic_beds.Given as goal

abbrev pub invariant-loop-s : goal.invariant-loop-s
invariant-loop-s l = Taking l.beds (members l.fn.clinic.0) (left_in l.s-iterator) l.j l.taken
