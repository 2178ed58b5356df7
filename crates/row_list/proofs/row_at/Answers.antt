use Rattle.std.proofs.Common.{arith}
use Rattle.row_list.proofs.Reading.{none_read, one_read, all_read}
use Rattle.row_list.proofs.row_at.Goals as goal

pub loop-j-init : goal.loop-j-init
loop-j-init c = none_read _ _

pub loop-j-preserved : goal.loop-j-preserved
loop-j-preserved c = let l = c.loop-j in one_read _ _ l.j l.words (omega arith) l.invariant

pub returns : goal.returns
returns c = all_read _ c.args.i c.loop-j.j _ (omega arith) c.cost_at.ensures c.loop-j.invariant
