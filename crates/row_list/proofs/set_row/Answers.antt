use Rattle.std.proofs.Common.{arith, rules}
use Rattle.row_list.proofs.Writing.{stored}
use Rattle.row_list.proofs.set_row.Goals as goal

pub returns : goal.returns
returns c = let a = c.args in stored a.i a.row a.list.now (omega arith) _ (search rules) c.copy_from_slice.ensures.after
