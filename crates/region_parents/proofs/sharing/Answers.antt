use borrow.Author.Rules.{rules}
use native.Mathlib.Omega.{arith}
use Rattle.held_region.specs.Related.{members_known}
use Rattle.region_parents.specs.Neighbours.{near_none, near_table, near_all}
use Rattle.region_parents.proofs.sharing.Goals as goal

pub loop-i-init : goal.loop-i-init
loop-i-init c = (omega arith, near_none c.args.region)

pub offset_bounds-region-i : goal.offset_bounds-region-i
offset_bounds-region-i c = omega (arith, c.loop-i.invariant.0, c.requires.places.tables)

pub bounds-region-i : goal.bounds-region-i
bounds-region-i c = omega (arith, c.loop-i.invariant.0, c.requires.places.tables)

pub member_set-requires : goal.member_set-requires
member_set-requires c =
    members_known c.args.region c.requires _ (omega (arith, c.loop-i.invariant.0, c.loop-i-test.true))

pub loop-i-smaller : goal.loop-i-smaller
loop-i-smaller c = omega (arith, c.loop-i-test.true)

pub loop-i-preserved : goal.loop-i-preserved
loop-i-preserved c =
    (omega (arith, c.loop-i.invariant.0), near_table c.args.region c.loop-i.i c.member_set.result.0 c.loop-i.invariant.1 c.loop-i-test.true c.loop-i.invariant.0 c.gather.ensures (search rules) c.member_set.ensures)

pub returns : goal.returns
returns c = near_all c.args.region _ c.loop-i.invariant.1 c.loop-i-test.false
