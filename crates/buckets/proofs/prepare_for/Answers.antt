use native.Mathlib.Omega.{arith}
use Rattle.held_region.specs.Sound.{accepted_sound}
use Rattle.held_region.specs.Related.{members_known}
use Rattle.buckets.specs.Counting.{lowest_in}
use Rattle.buckets.proofs.Held.{fixed_fit, some_members, members_asked}
use Rattle.buckets.proofs.Filling.{counts_held, filling_none, filling_all, filling_start, filling_known, filling_place, filling_over, filling_more}
use Rattle.buckets.proofs.prepare_for.Goals as goal

pub patient_buckets-requires : goal.patient_buckets-requires
patient_buckets-requires c = ((accepted_sound _ _ c.requires).places.patients, fixed_fit _ _ c.requires)

pub entry_total-start-requires : goal.entry_total-start-requires
entry_total-start-requires c = counts_held _ _ c.requires

pub loop-i-init : goal.loop-i-init
loop-i-init c = filling_none _ _ c.requires _ _ _ (accepted_sound _ _ c.requires).places.tables c.patient_buckets.ensures c.entry_total-start.ensures

pub overflow_sub-start : goal.overflow_sub-start
overflow_sub-start c =
    let turn = c in
    filling_start _ _ turn.requires _ _ _ _ _ (omega arith) turn.loop-i.invariant

pub counts_for-requires : goal.counts_for-requires
counts_for-requires c =
    let turn = c in
    let start = turn in
    let place = filling_place _ _ start.requires _ _ _ _ _ (omega arith) turn.loop-i.invariant in
    (members_known _ (accepted_sound _ _ start.requires) _ place, some_members _ _ start.requires _ place)

pub add_term-requires : goal.add_term-requires
add_term-requires c =
    let turn = c in
    filling_known _ _ turn.requires _ _ _ _ _ (omega arith) turn.loop-i.invariant

pub loop-i-preserved-then-counts_for : goal.loop-i-preserved-then-counts_for
loop-i-preserved-then-counts_for c =
    let asked = c in
    let turn = asked in
    let pre = turn.requires in
    let place = filling_place _ _ pre _ _ _ _ _ (omega arith) turn.loop-i.invariant in
    filling_more _ _ pre _ _ _ _ _ (omega arith) turn.loop-i.invariant (members_asked _ _ pre _ place (lowest_in _) asked.counts_for.ensures) c.if-counts_for.true c.add_term.ensures

pub loop-i-preserved : goal.loop-i-preserved
loop-i-preserved c =
    let turn = c in
    let pre = turn.requires in
    let place = filling_place _ _ pre _ _ _ _ _ (omega arith) turn.loop-i.invariant in
    filling_over _ _ pre _ _ _ _ _ (omega arith) turn.loop-i.invariant (members_asked _ _ pre _ place (lowest_in _) c.counts_for.ensures) c.if-counts_for.false

pub returns : goal.returns
returns c = filling_all _ _ c.requires _ _ _ _ _ (omega arith) c.loop-i.invariant
