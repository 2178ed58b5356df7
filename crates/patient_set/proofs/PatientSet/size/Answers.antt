use borrow.Author.Rules.{rules}
use Rattle.patient_set.proofs.Words.{size_is}
use Rattle.patient_set.proofs.PatientSet.size.Goals as goal

pub returns : goal.returns
returns c = size_is _ (search rules)
