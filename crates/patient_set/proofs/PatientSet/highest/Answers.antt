use borrow.Author.Rules.{rules}
use mathlib.Core.Path.{sym, ◌∙◌}
use Rattle.patient_set.proofs.Words.{highest_is, highest_none}
use Rattle.patient_set.proofs.PatientSet.highest.Goals as goal

pub returns-then-is_empty : goal.returns-then-is_empty
returns-then-is_empty c = highest_none _ (sym c.is_empty.ensures ∙ c.if-is_empty.true)

pub overflow_sub-result : goal.overflow_sub-result
overflow_sub-result c = (highest_is _ (search rules) (sym c.is_empty.ensures ∙ c.if-is_empty.false)).0

pub returns : goal.returns
returns c = (highest_is _ (search rules) (sym c.is_empty.ensures ∙ c.if-is_empty.false)).1
