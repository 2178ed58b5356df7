use Rattle.pricing.proofs.Adding.{Added}
use Rattle.pricing.proofs.beds.add_entries.Given as goal

abbrev pub invariant-loop-bed : goal.invariant-loop-bed
invariant-loop-bed l = Added l.entries l.from l.first l.end l.initial.sums l.sums l.bed
