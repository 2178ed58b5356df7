use Rattle.patient_set.proofs.Words.{or_at}
use Rattle.patient_set.proofs.PatientSet.join.Goals as goal

pub returns : goal.returns
returns c = λ q. or_at _ _ q
