use native.Mathlib.Omega.{arith}
use Rattle.row_sums.specs.Sums.{work_part}
use Rattle.sheets.proofs.Walking.{walked_start, walked_room, walked_asks, walked_next, walked_done}
use Rattle.sheets.proofs.keep_rows.Goals as goal

pub loop-i-init : goal.loop-i-init
loop-i-init c = walked_start _ _ _ _ _ _ _

pub own_row-own-requires : goal.own_row-own-requires
unfolding work_part
own_row-own-requires c =
    let turn = c in
    walked_asks _ _ _ _ _ _ _ _ _ _ turn.loop-i.invariant (omega arith) _ c.row_at-row.ensures turn.requires

pub keep_new-count-requires : goal.keep_new-count-requires
unfolding work_part
keep_new-count-requires c =
    let turn = c in
    let pre = turn.requires in
    walked_room _ _ _ _ _ _ _ _ _ _ turn.loop-i.invariant (omega arith) pre.few pre.long

pub loop-i-preserved : goal.loop-i-preserved
unfolding work_part
loop-i-preserved c =
    let made = c in
    let turn = made in
    let pre = turn.requires in
    walked_next _ _ _ _ _ _ _ _ _ _ turn.loop-i.invariant (omega arith) _ made.row_at-row.ensures _ _ _ pre.long made.own_row-own.ensures c.keep_new-count.ensures

pub returns : goal.returns
returns c = walked_done _ _ _ _ _ _ _ _ _ _ c.loop-i.invariant (omega arith)
