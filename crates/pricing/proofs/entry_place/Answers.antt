use mathlib.Core.Path.{refl}
use native.Mathlib.Omega.{arith}
use Rattle.pricing.proofs.Sums.{placing_start, bed_most, placing_next, placing_done}
use Rattle.pricing.proofs.entry_place.Goals as goal

pub loop-j-init : goal.loop-j-init
loop-j-init c = placing_start c.requires c.entry_start-place.ensures

pub bounds-beds-s : goal.bounds-beds-s
bounds-beds-s c = omega (arith, c.requires.known c.loop-j.j (omega arith), c.member-s.ensures)

pub overflow_mul-place : goal.overflow_mul-place
overflow_mul-place c =
    let turn = c in
    omega (arith, bed_most turn.requires turn.loop-j.invariant (omega arith) c.member-s.ensures refl (omega arith) c.stride.ensures)

pub overflow_add-place : goal.overflow_add-place
overflow_add-place c =
    let turn = c in
    omega (arith, turn.loop-j.invariant.most, bed_most turn.requires turn.loop-j.invariant (omega arith) c.member-s.ensures refl (omega arith) c.stride.ensures)

pub loop-j-preserved : goal.loop-j-preserved
loop-j-preserved c =
    let turn = c in
    placing_next turn.requires turn.loop-j.invariant (omega arith) c.member-s.ensures refl (omega arith) c.stride.ensures

pub returns : goal.returns
returns c = placing_done c.requires (omega arith) c.loop-j.invariant
