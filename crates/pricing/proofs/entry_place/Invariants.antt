use Rattle.pricing.proofs.Sums.{Placing}
use Rattle.pricing.proofs.entry_place.Given as goal

abbrev pub invariant-loop-j : goal.invariant-loop-j
invariant-loop-j l = Placing l.buckets.terms l.k l.beds l.place l.j
