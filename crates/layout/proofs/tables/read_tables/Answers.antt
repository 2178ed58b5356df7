use native.Mathlib.Omega.{arith}
use mathlib.Core.Path.{◌∙◌}
use Rattle.held_region.specs.FirstHeld.{set_full}
use Rattle.layout.proofs.HeldTables.{tables_none, used_few, tables_more, tables_other}
use Rattle.layout.proofs.tables.read_tables.Goals as goal

pub loop-i-init : goal.loop-i-init
loop-i-init c = rw c.blank.ensures (tables_none c.args.file.now c.args.at c.args.store.now)

pub overflow_add-used : goal.overflow_add-used
overflow_add-used c = omega (arith, used_few c.loop-i.invariant c.line_end-end.ensures c.loop-i-test.true (c.table_line.ensures.answer.there _ c.in-Some.is))

pub loop-i-preserved : goal.loop-i-preserved
loop-i-preserved c =
    let l = c.loop-i in
    tables_more l.invariant c.line_end-end.ensures c.loop-i-test.true (c.table_line.ensures.answer.there _ c.in-Some.is)
    (elim c.if-count-lt64.branch [ goal.then-count-lt64 w ↦ w.first-is | goal.else-count-lt64 w ↦ w.first-is ∙ set_full l.first l.count c.in-Some.table (omega (arith, w.if-count-lt64.false, l.invariant.wide)) ])

pub returns-in_default : goal.returns-in_default
returns-in_default c = tables_other c.loop-i.invariant c.line_end-end.ensures c.loop-i-test.true c.table_line.ensures c.in_default.is
