use borrow.Author.Rules.{rules}
use mathlib.Core.Path.{sym, ap, ◌∙◌}
use Rattle.lists.specs.Tests.{answered_no, answered_yes}
use Rattle.held_region.specs.AsHeld.{said_held}
use Rattle.answers.specs.Rooms.{or_twelve}
use Rattle.writer.specs.Calls.{given_values}
use Rattle.lent_writer.specs.Answered.{lent_outcome, not_whole, answered, unanswered}
use mathlib.Core.Bool.{not}
use Rattle.lent_writer.proofs.answer_lent.Goals as goal

pub returns-then-not-areas_whole : goal.returns-then-not-areas_whole
returns-then-not-areas_whole c =
    let asked = c in
    let a = asked.args in
    given_values _ c.refused.ensures.0 c.refused.ensures.1
    ∙ not_whole a.patients.now a.tables.now a.entries.now a.m a.output.now a.room (answered_no asked.areas_whole.ensures (ap not c.if-not-areas_whole.true))

pub region_lent-region-requires : goal.region_lent-region-requires
region_lent-region-requires c = answered_yes c.areas_whole.ensures (ap not c.if-not-areas_whole.false)

pub returns-then-not-room : goal.returns-then-not-room
returns-then-not-room c =
    let numbered = c in
    let checked = numbered in
    let judged = checked in
    let short = judged in
    let held = short in
    let asked = held in
    let a = asked.args in
    let whole = answered_yes asked.areas_whole.ensures (ap not held.if-not-areas_whole.false) in
    let number = numbered.or_twelve.ensures ∙ ap or_twelve (checked.checked_number.ensures ∙ judged.judge.ensures) in
    given_values _ (c.refused-then-not-room.ensures.0 ∙ number) c.refused-then-not-room.ensures.1
    ∙ unanswered a.patients.now a.tables.now a.entries.now a.m a.output.now whole _ held.region_lent-region.ensures (said_held _ _)
    ∙ ap (lent_outcome _ _ _ _ _) (sym (short.if-not-room.true))

pub returns : goal.returns
returns c =
    let wrote = c in
    let long = wrote in
    let held = long in
    let asked = held in
    let a = asked.args in
    let whole = answered_yes asked.areas_whole.ensures (ap not held.if-not-areas_whole.false) in
    given_values _ c.of.ensures.0 c.of.ensures.1 ∙ wrote.write.ensures
    ∙ answered a.patients.now a.tables.now a.entries.now a.m a.output.now whole _ held.region_lent-region.ensures (said_held _ _)
    ∙ ap (lent_outcome _ _ _ _ _) (sym (long.if-not-room.false))
