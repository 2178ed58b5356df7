use Rattle.std.proofs.Common.{arith}
use Rattle.row_list.proofs.Moving.{inserted, not_inserted, gap_made}
use Rattle.row_list.proofs.insert.Goals as goal

pub returns-then-at-m : goal.returns-then-at-m
returns-then-at-m c =
    let a = c.args in
    not_inserted a.n a.m a.row _ c.requires (rw c.if-at-m.true at c.place_of-at.ensures)

pub returns : goal.returns
returns c =
    let a = c.args in
    let p = c.place_of-at.result in
    let end = c.min-end.result in
    let moved = c.copy_within.ensures in
    inserted a.n a.m a.row _ _ _ p end c.requires c.place_of-at.ensures (omega arith) (omega arith)
    (gap_made p end _ _ (omega arith) moved.len moved.by_index.0 moved.by_index.1) c.set_row.ensures
