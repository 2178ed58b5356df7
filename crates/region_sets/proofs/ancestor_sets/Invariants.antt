use mathlib.Core.Path.{◌≡◌}
use lib.ListN.{length}
use Rattle.held_region.specs.Related.{AncestorsHeld}
use Rattle.region_sets.proofs.ancestor_sets.Given as goal

abbrev pub invariant-loop-child : goal.invariant-loop-child
invariant-loop-child l = (length l.sets ≡ 32) × AncestorsHeld l.region l.child l.sets
