use Rattle.std.proofs.Common.{rules}
use Rattle.row_list.specs.Rows.{whole_row}
use Rattle.row_list.proofs.cost_at.Goals as goal

pub returns : goal.returns
unfolding whole_row
returns c = search rules
