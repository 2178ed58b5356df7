use native.Mathlib.Omega.{arith}
use lib.ListN.{length-set}
use Rattle.held_region.specs.Related.{parent_smaller, ancestors_more}
use Rattle.region_sets.proofs.ancestor_sets.Goals as goal

pub above-requires : goal.above-requires
above-requires c =
    λ p e. omega (arith, parent_smaller c.args.region c.requires _ c.loop-child-test.true p e)

pub loop-child-preserved : goal.loop-child-preserved
loop-child-preserved c =
    let inv = c.loop-child.invariant in
    (simp length-set inv.0, ancestors_more c.args.region c.requires _ c.loop-child-test.true _ _ (omega arith) inv.1 c.above.ensures)
