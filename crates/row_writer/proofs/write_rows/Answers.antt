use Rattle.std.proofs.Common.{arith, rules}
use Rattle.row_writer.proofs.Turns.{one_row, rows_done}
use Rattle.row_writer.proofs.write_rows.Goals as goal

pub loop-r-preserved : goal.loop-r-preserved
loop-r-preserved c =
    let l = c.loop-r in
    let a = c.args in
    one_row a.v a.n _ _ _ l.beds l.costs l.r l.invariant c.row_at-row.result c.beds_of-plain.result c.copy_from_slice.new.self (omega arith) (omega arith) c.requires.beds_long
    c.row_at-row.ensures c.beds_of-plain.ensures (search rules)

pub returns : goal.returns
returns c =
    let l = c.loop-r in
    let a = c.args in
    rows_done a.v a.n _ _ _ l.beds l.costs l.r l.invariant (omega arith)
