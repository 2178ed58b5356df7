use mathlib.Core.Path.{sym, ◌∙◌}
use Rattle.scanner.proofs.Steps.{step_next, step_closed, step_missing}
use Rattle.scanner.proofs.item_step.Goals as goal

pub returns-in-Space : goal.returns-in-Space
returns-in-Space c = step_next _ _ (sym c.class_at.ensures ∙ c.in-Space.is)

pub returns-in-Close : goal.returns-in-Close
returns-in-Close c = step_closed _ _ (sym c.class_at.ensures ∙ c.in-Close.is)

pub returns-in_default : goal.returns-in_default
returns-in_default c = step_missing _ _ c.class_at.ensures c.in_default.not-Space c.in_default.not-Close
