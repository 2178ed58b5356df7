use mathlib.Core.Path.{ap, ◌∙◌}
use native.Mathlib.Omega.{arith}
use Rattle.patient_set.specs.Sets.{left_in}
use Rattle.sheets.proofs.Parts.{taking_start, taking_known, taking_room, taking_next, taking_done}
use Rattle.sheets.proofs.clinic_beds.Goals as goal

pub loop-s-init : goal.loop-s-init
loop-s-init c = taking_start _ _ (ap left_in c.into_iter-s-iterator.ensures.into_iter_gives ∙ c.iter-s-items.ensures)

pub bounds-beds-s : goal.bounds-beds-s
bounds-beds-s c = taking_known c.loop-s.invariant c.in-Some.ensures.steps

pub bounds-taken-j : goal.bounds-taken-j
bounds-taken-j c = taking_room c.loop-s.invariant c.in-Some.ensures.steps

pub overflow_add-j : goal.overflow_add-j
overflow_add-j c = omega (arith, taking_room c.loop-s.invariant c.in-Some.ensures.steps)

pub loop-s-preserved : goal.loop-s-preserved
loop-s-preserved c = taking_next c.loop-s.invariant c.in-Some.ensures.steps

pub returns : goal.returns
returns c = taking_done c.loop-s.invariant c.in-None.ensures.steps.0
