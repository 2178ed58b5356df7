use Prim.Native.Nat.{◌-◌}
use Rattle.pricing.proofs.Chains.{Goes}
use Rattle.pricing.proofs.bucket_cost.Given as goal

abbrev pub invariant-loop-k : goal.invariant-loop-k
invariant-loop-k l = Goes l.entries l.buckets.patients l.buckets.terms l.s l.beds l.sum l.k

abbrev pub decreases-loop-k : goal.decreases-loop-k
decreases-loop-k l = 64 - l.k
