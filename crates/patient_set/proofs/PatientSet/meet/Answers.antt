use Rattle.patient_set.proofs.Words.{and_at}
use Rattle.patient_set.proofs.PatientSet.meet.Goals as goal

pub returns : goal.returns
returns c = λ q. and_at _ _ q
