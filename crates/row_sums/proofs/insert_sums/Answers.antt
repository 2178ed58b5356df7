use Rattle.std.proofs.Common.{arith, ◌≡◌, sym, ◌∙◌}
use Rattle.row_sums.specs.Sums.{work_part}
use Rattle.row_sums.proofs.Joining.{none_joined, one_joined, all_joined, read_in}
use Rattle.row_sums.proofs.Skipping.{rest_skipped, cost_fits}
use Rattle.row_sums.proofs.insert_sums.Goals as goal

pub loop-j-init : goal.loop-j-init
loop-j-init c = none_joined _ _ _ _ (omega arith)

pub overflow_add-cost : goal.overflow_add-cost
unfolding work_part
overflow_add-cost c =
    omega (arith, cost_fits c.args.b c.loop-j.j _ c.args.x _ _ c.loop-j-test.true c.requires.fits c.loop-j.invariant.kept.second c.cost_at.ensures)

pub returns-then-exceeds_last : goal.returns-then-exceeds_last
unfolding work_part
returns-then-exceeds_last c =
    let l = c.loop-j in
    let a = c.args in
    rest_skipped a.m a.n a.x _ l.j a.b l.count _ _ c.requires.some c.loop-j-test.true l.invariant c.cost_at.ensures (sym c.exceeds_last.ensures ∙ c.if-exceeds_last.true)

pub add_rows-sum-requires : goal.add_rows-sum-requires
unfolding work_part
add_rows-sum-requires c =
    c.requires.fits _ (read_in c.args.b c.loop-j.j _ _ _ c.loop-j-test.true c.loop-j.invariant.kept.second c.row_at.ensures)

pub insert-count-requires : goal.insert-count-requires
insert-count-requires c = record { held = omega arith; wanted = omega arith; some = omega arith; long = omega arith }

pub loop-j-preserved : goal.loop-j-preserved
unfolding work_part
loop-j-preserved c =
    let l = c.loop-j in
    let a = c.args in
    one_joined a.m a.n a.x _ l.j l.count _ l.work _ _ _ (omega (arith, l.invariant.kept.long)) l.invariant c.row_at.ensures c.add_rows-sum.ensures c.insert-count.ensures

pub returns : goal.returns
returns c =
    let l = c.loop-j in
    let e : l.j ≡ c.args.b = omega arith in
    all_joined _ _ _ _ (rw e at l.invariant)
