use native.Mathlib.Omega.{arith}
use mathlib.Core.Path.{ap, ◌∙◌}
use Rattle.patient_set.specs.Sets.{left_in}
use Rattle.search.proofs.Leasts.{adding_start, adding_known, adding_room, adding_next, adding_done}
use Rattle.search.proofs.least_sum.Goals as goal

pub loop-s-init : goal.loop-s-init
loop-s-init c = adding_start _ _ (ap left_in c.into_iter-s-iterator.ensures.into_iter_gives ∙ c.iter-s-items.ensures)

pub least_cost-requires : goal.least_cost-requires
least_cost-requires c = adding_known c.loop-s.invariant c.in-Some.ensures.steps

pub overflow_add-n : goal.overflow_add-n
overflow_add-n c = omega (arith, adding_room c.loop-s.invariant c.in-Some.ensures.steps, c.least_cost.ensures.1)

pub loop-s-preserved : goal.loop-s-preserved
loop-s-preserved c = adding_next c.loop-s.invariant c.in-Some.ensures.steps c.least_cost.ensures.0 c.least_cost.ensures.1

pub returns : goal.returns
returns c = adding_done c.loop-s.invariant c.in-None.ensures.steps.0
