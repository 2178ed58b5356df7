use Rattle.std.proofs.Common.{arith, ◌≡◌, ◌+◌, ◌-◌}
use Rattle.packed_rows.specs.Packed.{packable}
use Rattle.packed_rows.proofs.Packing.{one_packed, has_room}
use Rattle.packed_rows.proofs.packed_word.Goals as goal

pub overflow_mul-word : goal.overflow_mul-word
overflow_mul-word c = let l = c.loop-s in omega (arith, has_room (l.s - c.args.first) l.word 0 (omega arith) l.invariant.fits (omega arith))

pub overflow_add-word : goal.overflow_add-word
overflow_add-word c =
    let l = c.loop-s in
    omega (arith, has_room (l.s - c.args.first) l.word c.bed_below.result (omega arith) l.invariant.fits c.bed_below.ensures.1)

pub loop-s-preserved : goal.loop-s-preserved
loop-s-preserved c =
    let l = c.loop-s in
    let a = c.args in
    let k = l.s - a.first in
    let place : a.first + k ≡ l.s = omega arith in
    let next : k + 1 ≡ l.s + 1 - a.first = omega arith in
    rw next at (one_packed (packable a.v a.beds.now) a.first k l.word c.bed_below.result l.invariant (rw place c.bed_below.ensures.0) c.bed_below.ensures.1)

pub returns : goal.returns
returns c = c.loop-s.invariant.held 7 (omega arith)
