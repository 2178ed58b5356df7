use mathlib.Core.Path.{◌≡◌}
use Rattle.definitions.specs.Basics.{below, every}
use Rattle.lists.specs.Loops.{asked_from}
use Rattle.pricing.specs.Pricing.{bed_permitted}
use Rattle.pricing.proofs.keeps_fixed.Given as goal

abbrev pub invariant-loop-s : goal.invariant-loop-s
invariant-loop-s l = asked_from (bed_permitted l.buckets.patients l.beds) l.v l.s ≡ every (bed_permitted l.buckets.patients l.beds) (below l.v)
