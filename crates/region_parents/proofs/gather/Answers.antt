use Rattle.std.proofs.Common.{rules, arith, ap, ◌∙◌}
use lib.ListN.{length-set}
use Rattle.patient_set.specs.Sets.{left_in}
use Rattle.patient_set.specs.Laws.{coming_patient}
use Rattle.region_parents.specs.Neighbours.{walked_none, walked_more, walked_all}
use Rattle.region_parents.proofs.gather.Goals as goal

pub loop-s-init : goal.loop-s-init
loop-s-init c = (c.told-near, walked_none c.args.near.now c.args.group.0 _ (search rules) (ap left_in c.into_iter-s-iterator.ensures.into_iter_gives ∙ c.iter-s-items.ensures))

pub offset_bounds-near-s : goal.offset_bounds-near-s
offset_bounds-near-s c = omega (arith, coming_patient _ _ _ c.in-Some.ensures.steps)

pub bounds-near-s : goal.bounds-near-s
bounds-near-s c = coming_patient _ _ _ c.in-Some.ensures.steps

pub offset_bounds-near-s-in-loop-s : goal.offset_bounds-near-s-in-loop-s
offset_bounds-near-s-in-loop-s c = omega (arith, coming_patient _ _ _ c.in-Some.ensures.steps)

pub bounds-near-s-in-loop-s : goal.bounds-near-s-in-loop-s
bounds-near-s-in-loop-s c = coming_patient _ _ _ c.in-Some.ensures.steps

pub loop-s-preserved : goal.loop-s-preserved
loop-s-preserved c =
    let next = c.in-Some.ensures.steps in (
      simp length-set c.loop-s.invariant.0,
      walked_more c.args.near.now c.loop-s.near _ c.in-Some.s _ _ _ c.loop-s.invariant.1 next (omega (arith, c.loop-s.invariant.0, coming_patient _ _ _ next)) c.join.ensures,
    )

pub returns : goal.returns
returns c = walked_all _ _ _ _ c.loop-s.invariant.1 c.in-None.ensures.steps.0 c.loop-s.invariant.0
