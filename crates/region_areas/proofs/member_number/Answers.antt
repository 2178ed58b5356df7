use mathlib.Core.Path.{◌∙◌}
use Rattle.region_areas.specs.Laid.{member_held, member_past}
use Rattle.region_areas.proofs.member_number.Goals as goal

pub returns-then-j-table : goal.returns-then-j-table
returns-then-j-table c = c.from.ensures ∙ member_held c.args.table _ c.if-j-table.true

pub returns-else-j-table : goal.returns-else-j-table
returns-else-j-table c = member_past c.args.table _ c.if-j-table.false
