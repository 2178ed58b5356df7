use mathlib.Core.Path.{sym}
use Rattle.pricing.specs.Costs.{sum_number, sum_none}
use Rattle.pricing.proofs.beds.bed_cost.Goals as goal

pub returns-then-sum-ge-NO_SUM : goal.returns-then-sum-ge-NO_SUM
returns-then-sum-ge-NO_SUM c = sym (sum_none _ c.if-sum-ge-NO_SUM.true)

pub returns : goal.returns
returns c = sym (sum_number _ c.if-sum-ge-NO_SUM.false)
