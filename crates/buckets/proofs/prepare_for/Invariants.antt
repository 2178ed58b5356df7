use Rattle.buckets.specs.Counting.{counts_for}
use Rattle.buckets.proofs.Filling.{Filling}
use Rattle.buckets.proofs.prepare_for.Given as goal

abbrev pub invariant-loop-i : goal.invariant-loop-i
invariant-loop-i l = Filling l.region l.store (counts_for l.of.0) l.i l.start l.buckets.patients l.buckets.terms
