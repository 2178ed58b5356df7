use mathlib.Core.Path.{sym, ap, ◌∙◌}
use Rattle.definitions.specs.Basics.{some}
use Rattle.patient_set.specs.Sets.{members}
use Rattle.lists.specs.Last.{last_none, last_some}
use Rattle.region_parents.proofs.parent_among.Goals as goal

pub returns-then-is_empty : goal.returns-then-is_empty
returns-then-is_empty c = sym (last_none (members _) (sym c.is_empty.ensures ∙ c.if-is_empty.true))

pub returns : goal.returns
returns c = ap some c.highest.ensures ∙ sym (last_some (members _) 32 (sym c.is_empty.ensures ∙ c.if-is_empty.false))
