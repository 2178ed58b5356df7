use native.Mathlib.Omega.{arith}
use mathlib.Core.Path.{ap, ◌∙◌}
use Rattle.std.specs.Prelude as Code
use Rattle.definitions.specs.Layout.{hyphen_or_number}
use Rattle.scanner.specs.Answers.{entry_read, step_read}
use Rattle.scanner.specs.Bounds.{hyphen_bounded}
use Rattle.table_reader.proofs.HeldTables.{found, not_found, list_start, list_missing, list_no_item, list_no_separator, list_on, list_more, list_closed, adds_none, entries_more}
use Rattle.table_reader.proofs.entries_at.Goals as goal

pub returns-in_err-i : goal.returns-in_err-i
returns-in_err-i c = rw c.from_residual.ensures (not_found (list_missing hyphen_or_number c.open_at.ensures c.in_err-i.was))

pub loop-entry-init : goal.loop-entry-init
loop-entry-init c = list_start hyphen_or_number c.open_at.ensures c.in_ok-i.was adds_none

pub returns-in_err-entry : goal.returns-in_err-entry
returns-in_err-entry c = rw c.from_residual-in_err-entry.ensures (not_found (list_no_item hyphen_bounded c.loop-entry.invariant c.hyphen_or_number_at.ensures (ap entry_read c.in_err-entry.was)))

pub returns-in_err-next : goal.returns-in_err-next
returns-in_err-next c =
    rw c.from_residual-in_err-next.ensures
    (not_found (list_no_separator hyphen_bounded c.loop-entry.invariant c.hyphen_or_number_at.ensures (ap entry_read c.in_ok-entry.was) c.item_step.ensures (ap step_read c.in_err-next.was)))

pub overflow_add-count : goal.overflow_add-count
overflow_add-count c = omega (arith, list_on hyphen_bounded c.loop-entry.invariant c.hyphen_or_number_at.ensures (ap entry_read c.in_ok-entry.was) c.item_step.ensures (ap step_read (c.in_ok-next.was ∙ ap Code.Some c.in-Next.is)))

pub loop-entry-smaller : goal.loop-entry-smaller
loop-entry-smaller c = omega (arith, list_on hyphen_bounded c.loop-entry.invariant c.hyphen_or_number_at.ensures (ap entry_read c.in_ok-entry.was) c.item_step.ensures (ap step_read (c.in_ok-next.was ∙ ap Code.Some c.in-Next.is)))

pub loop-entry-preserved : goal.loop-entry-preserved
loop-entry-preserved c =
    list_more hyphen_bounded c.loop-entry.invariant c.hyphen_or_number_at.ensures (ap entry_read c.in_ok-entry.was) c.item_step.ensures (entries_more _ c.code_of.ensures c.put.ensures) (ap step_read (c.in_ok-next.was ∙ ap Code.Some c.in-Next.is))

pub overflow_add-result : goal.overflow_add-result
overflow_add-result c = omega (arith, list_on hyphen_bounded c.loop-entry.invariant c.hyphen_or_number_at.ensures (ap entry_read c.in_ok-entry.was) c.item_step.ensures (ap step_read (c.in_ok-next.was ∙ ap Code.Some c.in-Closed.is)))

pub returns-in-Closed : goal.returns-in-Closed
returns-in-Closed c =
    found (list_closed hyphen_bounded c.loop-entry.invariant c.hyphen_or_number_at.ensures (ap entry_read c.in_ok-entry.was) c.item_step.ensures (entries_more _ c.code_of.ensures c.put.ensures) (ap step_read (c.in_ok-next.was ∙ ap Code.Some c.in-Closed.is)))
