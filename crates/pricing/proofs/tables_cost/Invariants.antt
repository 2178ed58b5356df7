use Rattle.pricing.proofs.Totals.{Adds}
use Rattle.pricing.proofs.tables_cost.Given as goal

abbrev pub invariant-loop-s : goal.invariant-loop-s
invariant-loop-s l = Adds l.entries l.buckets.patients l.buckets.terms l.v l.plan.beds l.sum l.s
