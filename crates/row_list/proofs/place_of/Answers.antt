use native.Mathlib.Omega.{arith}
use mathlib.Core.Path.{sym, ◌∙◌}
use Rattle.row_list.proofs.Placing.{all_between, lower_half, upper_half, place_found}
use Rattle.row_list.proofs.place_of.Goals as goal

pub loop-low-init : goal.loop-low-init
loop-low-init c = all_between _ _ _

pub overflow_sub-middle : goal.overflow_sub-middle
overflow_sub-middle c = omega arith

pub overflow_add-middle : goal.overflow_add-middle
overflow_add-middle c = omega (arith, c.loop-low.invariant.within)

pub row_at-requires : goal.row_at-requires
row_at-requires c = omega (arith, c.loop-low.invariant.within)

pub loop-low-smaller-then-precedes : goal.loop-low-smaller-then-precedes
loop-low-smaller-then-precedes c = omega arith

pub loop-low-preserved-then-precedes : goal.loop-low-preserved-then-precedes
loop-low-preserved-then-precedes c = lower_half _ _ _ c.loop-low.invariant (omega arith) (omega arith) (rw (← c.row_at.ensures) (sym c.precedes.ensures ∙ c.if-precedes.true))

pub overflow_add-low : goal.overflow_add-low
overflow_add-low c = omega (arith, c.loop-low.invariant.within)

pub loop-low-smaller : goal.loop-low-smaller
loop-low-smaller c = omega arith

pub loop-low-preserved : goal.loop-low-preserved
loop-low-preserved c = upper_half _ _ _ c.loop-low.invariant (omega arith) (omega arith) (rw (← c.row_at.ensures) (sym c.precedes.ensures ∙ c.if-precedes.false))

pub returns : goal.returns
returns c = place_found _ _ _ c.loop-low-test.false c.loop-low.invariant
