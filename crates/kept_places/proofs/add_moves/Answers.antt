use native.Mathlib.Omega.{arith}
use mathlib.Core.Path.{◌≡◌}
use Prim.Native.Nat.{◌-◌}
use Rattle.kept_places.proofs.Linking.{linked_still, asks_add, linked_more}
use Rattle.kept_places.proofs.add_moves.Goals as goal

pub add_move-requires : goal.add_move-requires
add_move-requires c =
    let pre = c.requires in
    let l = c.loop-j in
    let known = pre.known (l.j - 1) (omega arith) in
    let near = pre.near (l.j - 1) (omega arith) in
    asks_add pre.few (omega arith) (omega arith) l.invariant known c.member.ensures c.low_stride-by.ensures near

pub loop-j-preserved-then-by-gt0 : goal.loop-j-preserved-then-by-gt0
loop-j-preserved-then-by-gt0 c =
    let pre = c.requires in
    let l = c.loop-j in
    let known = pre.known (l.j - 1) (omega arith) in
    let by = c.low_stride-by.ensures in
    let some = c.if-by-gt0.true in
    linked_more pre.few (omega arith) (omega arith) l.invariant known c.member.ensures by some c.add_move.ensures

pub loop-j-preserved : goal.loop-j-preserved
loop-j-preserved c =
    let pre = c.requires in
    let l = c.loop-j in
    linked_still pre.few (omega arith) (omega arith) l.invariant (omega (arith, c.low_stride-by.ensures, c.if-by-gt0.false))

pub returns : goal.returns
returns c =
    let none : c.loop-j.j ≡ 0 = omega arith in
    rw none at c.loop-j.invariant
