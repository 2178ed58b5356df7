use mathlib.Core.Path.{sym, ap, ◌∙◌}
use Rattle.held_region.specs.Members.{rises_from, members_all, members_done, member_out, member_low, member_right}
use Rattle.questions.proofs.fields.members_rise.Goals as goal

pub loop-i-init : goal.loop-i-init
loop-i-init c = ap (rises_from _ 0) (members_all _)

pub returns-then-v-s : goal.returns-then-v-s
returns-then-v-s c =
    let more = c.loop-i-test.true in
    elim c.then-v-s.branch [
      | goal.then-v-s-via-then-v-s w ↦ member_out _ _ _ _ more c.loop-i.invariant w.if-v-s.true
      | goal.then-v-s-via-else-v-s+then-s-least w ↦ member_low _ _ _ _ more c.loop-i.invariant w.if-v-s.false w.if-s-least.true
    ]

pub loop-i-preserved : goal.loop-i-preserved
loop-i-preserved c = member_right _ _ _ _ c.loop-i-test.true c.loop-i.invariant c.if-v-s.false c.if-s-least.false

pub returns : goal.returns
unfolding rises_from
returns c = sym (ap (rises_from _ _) (members_done _ _ c.loop-i-test.false)) ∙ c.loop-i.invariant
