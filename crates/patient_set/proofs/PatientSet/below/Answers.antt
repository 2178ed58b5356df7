use borrow.Author.Rules.{rules}
use Rattle.patient_set.proofs.Words.{none_at, below_at}
use Rattle.patient_set.proofs.PatientSet.below.Goals as goal

pub returns-then-v-eq0 : goal.returns-then-v-eq0
returns-then-v-eq0 c = λ q. none_at c.args.v q (search rules)

pub returns : goal.returns
returns c = λ q. below_at c.args.v q (search rules)
