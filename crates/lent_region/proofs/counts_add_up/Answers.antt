use native.Mathlib.Omega.{arith}
use Rattle.lent_region.proofs.Areas.{count_over, count_off, counts_done}
use Rattle.lent_region.proofs.counts_add_up.Goals as goal

pub returns-then-left-count : goal.returns-then-left-count
returns-then-left-count c =
    let turn = c in
    count_over _ _ _ turn.loop-i.i turn.loop-i.invariant.1 c.number_at-count.ensures (omega arith) c.if-left-count.true

pub loop-i-preserved : goal.loop-i-preserved
loop-i-preserved c =
    let turn = c in
    (omega arith, count_off _ _ _ turn.loop-i.i turn.loop-i.invariant.1 c.number_at-count.ensures (omega arith) (omega arith))

pub returns : goal.returns
returns c = counts_done _ _ _ _ c.loop-i.invariant.1 c.loop-i.invariant.0 c.loop-i-test.false
