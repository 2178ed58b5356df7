use Rattle.pricing.proofs.Permitted.{total_forbidden, total_allowed}
use Rattle.pricing.proofs.total.Goals as goal

pub keeps_fixed-requires : goal.keeps_fixed-requires
keeps_fixed-requires c = c.requires.few

pub returns-then-not-keeps_fixed : goal.returns-then-not-keeps_fixed
returns-then-not-keeps_fixed c = total_forbidden c.args.plan.beds c.keeps_fixed.ensures (c.if-not-keeps_fixed.true)

pub tables_cost-requires : goal.tables_cost-requires
tables_cost-requires c = c.requires

pub returns : goal.returns
returns c = total_allowed c.args.plan.beds c.keeps_fixed.ensures c.tables_cost.result (c.if-not-keeps_fixed.false) c.tables_cost.ensures
