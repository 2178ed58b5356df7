use borrow.Author.Rules.{rules}
use Rattle.patient_set.proofs.Words.{one_at}
use Rattle.patient_set.proofs.PatientSet.one.Goals as goal

pub returns : goal.returns
returns c = λ q. one_at c.args.p q (search rules)
