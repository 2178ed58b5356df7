use Rattle.std.proofs.Common.{arith, sym, length-take-le}
use Rattle.row_sums.specs.Sums.{work_part}
use Rattle.row_sums.proofs.Joining.{none_found, row_found, next_row}
use Rattle.row_sums.proofs.Finding.{all_found}
use Rattle.row_sums.proofs.combine.Goals as goal

pub loop-i-init : goal.loop-i-init
loop-i-init c = none_found _ _ _

pub slice_bounds-row_at-end-in-loop-i : goal.slice_bounds-row_at-end-in-loop-i
slice_bounds-row_at-end-in-loop-i c = sym (length-take-le 384 c.loop-i.work (omega arith))

pub row_at-x-requires : goal.row_at-x-requires
row_at-x-requires c = omega (arith, length-take-le 384 c.loop-i.work (omega arith))

pub insert_sums-n-requires : goal.insert_sums-n-requires
unfolding work_part
insert_sums-n-requires c =
    let l = c.loop-i in
    let a = c.args in
    next_row a.m a.b _ a.a l.i l.n _ _ c.requires (omega arith) l.invariant c.row_at-x.ensures

pub loop-i-preserved : goal.loop-i-preserved
unfolding work_part
loop-i-preserved c =
    let l = c.loop-i in
    let a = c.args in
    row_found a.m a.b _ l.i l.n _ _ _ _ l.invariant c.row_at-x.ensures c.insert_sums-n.ensures

pub returns : goal.returns
returns c =
    let l = c.loop-i in
    let a = c.args in
    all_found a.m a.a a.b l.i l.n _ _ _ (omega arith) (omega arith) l.invariant c.copy_back.ensures
