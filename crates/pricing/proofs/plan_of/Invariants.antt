use mathlib.Core.Path.{◌≡◌}
use Rattle.pricing.proofs.Placed.{Begun}
use Rattle.pricing.proofs.plan_of.Given as goal

abbrev pub invariant-loop-s : goal.invariant-loop-s
invariant-loop-s l = (l.plan.len ≡ l.s) × Begun l.beds l.plan.beds l.s
