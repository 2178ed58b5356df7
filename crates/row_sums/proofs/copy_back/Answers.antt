use mathlib.Core.Path.{◌≡◌}
use native.Mathlib.Omega.{arith}
use Rattle.row_sums.specs.Sums.{work_part}
use Rattle.row_sums.proofs.Copying.{none_copied, one_copied}
use Rattle.row_sums.proofs.copy_back.Goals as goal

pub loop-i-init : goal.loop-i-init
loop-i-init c = none_copied _

pub loop-i-preserved : goal.loop-i-preserved
unfolding work_part
loop-i-preserved c = one_copied _ c.loop-i.i c.loop-i.work _ _ (omega arith) c.loop-i.invariant c.row_at-row.ensures c.set_row.ensures

pub returns : goal.returns
returns c =
    let e : c.loop-i.i ≡ c.args.n = omega arith in
    rw e at c.loop-i.invariant
