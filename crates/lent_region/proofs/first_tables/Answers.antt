use borrow.Author.Rules.{rules}
use native.Mathlib.Omega.{arith}
use Rattle.lists.specs.Filling.{filled_none, filled_more, filled_all}
use Rattle.lent_region.proofs.first_tables.Goals as goal

pub loop-i-init : goal.loop-i-init
loop-i-init c = (search rules, filled_none)

pub loop-i-preserved : goal.loop-i-preserved
loop-i-preserved c =
    let turn = c in
    (search rules, filled_more c.table_at.result turn.loop-i.invariant.1 (omega arith) c.table_at.ensures)

pub returns : goal.returns
returns c = filled_all _ c.loop-i.invariant.1 (omega arith)
