use Rattle.patient_set.proofs.Words.{lowest_is}
use Rattle.patient_set.proofs.PatientSet.lowest.Goals as goal

pub returns : goal.returns
returns c = lowest_is _
