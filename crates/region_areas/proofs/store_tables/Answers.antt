use borrow.Author.Rules.{rules}
use mathlib.Core.Path.{refl, ◌∙◌}
use Rattle.region_areas.specs.Laid.{parts_all, parts_next, parts_done, table_part}
use Rattle.region_areas.proofs.store_tables.Goals as goal

pub loop-i-init : goal.loop-i-init
loop-i-init c = (refl, parts_all _ _ _ _)

pub loop-i-preserved : goal.loop-i-preserved
loop-i-preserved c =
    let stored = c in
    let inside = stored in
    let turn = inside in
    let region = turn.args.region in (
      search rules,
      parts_next 6 (table_part region) region.t _ turn.loop-i.i inside.loop-i-test.true refl stored.store_table.ensures ∙ turn.loop-i.invariant.1,
    )

pub returns : goal.returns
returns c = parts_done _ _ _ _ _ c.loop-i-test.false ∙ c.loop-i.invariant.1
