use mathlib.Core.Path.{◌≡◌}
use Rattle.definitions.specs.Basics.{below, every}
use Rattle.lists.specs.Loops.{asked_from}
use Rattle.pricing.proofs.Placed.{bed_fits}
use Rattle.pricing.proofs.plan_fits.Given as goal

abbrev pub invariant-loop-s : goal.invariant-loop-s
invariant-loop-s l = asked_from (bed_fits l.buckets.patients l.beds) l.v l.s ≡ every (bed_fits l.buckets.patients l.beds) (below l.v)
