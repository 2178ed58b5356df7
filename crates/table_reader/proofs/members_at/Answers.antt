use native.Mathlib.Omega.{arith}
use mathlib.Core.Path.{◌≡◌, ap, ◌∙◌}
use Rattle.std.specs.Prelude as Code
use lib.ListN.{set}
use Rattle.definitions.specs.Layout.{number}
use Rattle.scanner.specs.Answers.{number_read, step_read}
use Rattle.scanner.specs.Bounds.{number_bounded}
use Rattle.held_region.specs.FirstHeld.{set_full}
use Rattle.table_reader.proofs.HeldTables.{found, not_found, list_start, list_missing, list_no_item, list_no_separator, list_on, list_more, list_closed, members_none, members_more}
use Rattle.table_reader.proofs.members_at.Goals as goal

pub returns-in_err-i : goal.returns-in_err-i
returns-in_err-i c = rw c.from_residual.ensures (not_found (list_missing number c.open_at.ensures c.in_err-i.was))

pub loop-member-init : goal.loop-member-init
loop-member-init c = list_start number c.open_at.ensures c.in_ok-i.was members_none

pub returns-in_err-member : goal.returns-in_err-member
returns-in_err-member c = rw c.from_residual-in_err-member.ensures (not_found (list_no_item number_bounded c.loop-member.invariant c.number_at.ensures (ap number_read c.in_err-member.was)))

pub returns-in_err-next : goal.returns-in_err-next
returns-in_err-next c =
    rw c.from_residual-in_err-next.ensures
    (not_found (list_no_separator number_bounded c.loop-member.invariant c.number_at.ensures (ap number_read c.in_ok-member.was) c.item_step.ensures (ap step_read c.in_err-next.was)))

pub overflow_add-count : goal.overflow_add-count
overflow_add-count c = omega (arith, list_on number_bounded c.loop-member.invariant c.number_at.ensures (ap number_read c.in_ok-member.was) c.item_step.ensures (ap step_read (c.in_ok-next.was ∙ ap Code.Some c.in-Next.is)))

pub loop-member-smaller : goal.loop-member-smaller
loop-member-smaller c = omega (arith, list_on number_bounded c.loop-member.invariant c.number_at.ensures (ap number_read c.in_ok-member.was) c.item_step.ensures (ap step_read (c.in_ok-next.was ∙ ap Code.Some c.in-Next.is)))

pub loop-member-preserved : goal.loop-member-preserved
loop-member-preserved c =
    let l = c.loop-member in
    let v = c.in_ok-member.member in
    let is : c.if-count-lt4.first ≡ set l.first l.count v = elim c.if-count-lt4.branch [ goal.then-count-lt4 w ↦ w.first-is | goal.else-count-lt4 w ↦ w.first-is ∙ set_full l.first l.count v (omega (arith, w.if-count-lt4.false, l.invariant.kept.wide)) ] in
    list_more number_bounded c.loop-member.invariant c.number_at.ensures (ap number_read c.in_ok-member.was) c.item_step.ensures (members_more v is) (ap step_read (c.in_ok-next.was ∙ ap Code.Some c.in-Next.is))

pub overflow_add-result : goal.overflow_add-result
overflow_add-result c = omega (arith, list_on number_bounded c.loop-member.invariant c.number_at.ensures (ap number_read c.in_ok-member.was) c.item_step.ensures (ap step_read (c.in_ok-next.was ∙ ap Code.Some c.in-Closed.is)))

pub returns-in-Closed : goal.returns-in-Closed
returns-in-Closed c =
    let l = c.loop-member in
    let v = c.in_ok-member.member in
    let is : c.if-count-lt4.first ≡ set l.first l.count v = elim c.if-count-lt4.branch [ goal.then-count-lt4 w ↦ w.first-is | goal.else-count-lt4 w ↦ w.first-is ∙ set_full l.first l.count v (omega (arith, w.if-count-lt4.false, l.invariant.kept.wide)) ] in
    found (list_closed number_bounded c.loop-member.invariant c.number_at.ensures (ap number_read c.in_ok-member.was) c.item_step.ensures (members_more v is) (ap step_read (c.in_ok-next.was ∙ ap Code.Some c.in-Closed.is)))
