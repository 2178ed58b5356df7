use Prim.Native.Nat.{◌-◌}
use Rattle.pricing.proofs.BedSums.{Sums}
use Rattle.pricing.proofs.beds.bed_costs.Given as goal

abbrev pub invariant-loop-k : goal.invariant-loop-k
invariant-loop-k l = Sums l.entries l.buckets.patients l.buckets.terms l.places l.s l.first l.end l.sums l.k

abbrev pub decreases-loop-k : goal.decreases-loop-k
decreases-loop-k l = 64 - l.k
