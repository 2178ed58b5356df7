use native.Mathlib.Omega.{arith}
use lib.ListN.{length-set}
use Rattle.pricing.proofs.Placed.{begun_more, begun_done}
use Rattle.pricing.proofs.plan_of.Goals as goal

pub loop-s-preserved : goal.loop-s-preserved
loop-s-preserved c =
    let inv = c.loop-s.invariant in
    let beds = c.args.beds.now in
    let e = c.place-plan.ensures.0 in
    let more = begun_more beds _ _ (omega arith) inv.1 (simp length-set inv.1.long) in
    (omega (arith, c.place-plan.ensures.1, inv.0), rw e more)

pub returns : goal.returns
returns c = begun_done _ _ _ (omega arith) c.requires c.loop-s.invariant.1
