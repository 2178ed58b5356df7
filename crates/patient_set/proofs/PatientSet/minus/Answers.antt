use Rattle.patient_set.proofs.Words.{minus_at}
use Rattle.patient_set.proofs.PatientSet.minus.Goals as goal

pub returns : goal.returns
returns c = λ q. minus_at _ _ q
