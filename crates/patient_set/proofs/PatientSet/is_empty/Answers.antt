use borrow.Author.Rules.{rules}
use mathlib.Core.Path.{sym, ◌∙◌}
use Rattle.patient_set.specs.Laws.{empty_word}
use Rattle.patient_set.proofs.PatientSet.is_empty.Goals as goal

pub returns : goal.returns
returns c = c.eq.ensures ∙ sym (empty_word _ (search rules))
