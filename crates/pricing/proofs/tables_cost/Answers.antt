use native.Mathlib.Omega.{arith}
use Rattle.pricing.proofs.Totals.{adds_start, adds_done, adds_forbidden, adds_small, adds_next, asks_one}
use Rattle.pricing.proofs.tables_cost.Goals as goal

pub loop-s-init : goal.loop-s-init
loop-s-init c = adds_start

pub bucket_cost-requires : goal.bucket_cost-requires
bucket_cost-requires c = asks_one c.requires (omega arith)

pub returns-in-None : goal.returns-in-None
returns-in-None c r prepared fits all = grind (arith, adds_forbidden c.loop-s.invariant (omega arith) c.bucket_cost.ensures c.in-None.is r prepared fits all)

pub overflow_add-sum : goal.overflow_add-sum
overflow_add-sum c = omega (arith, adds_small c.loop-s.invariant (omega arith) c.bucket_cost.ensures _ c.in-Some.is, c.loop-s.invariant.few)

pub loop-s-preserved : goal.loop-s-preserved
loop-s-preserved c = adds_next c.loop-s.invariant (omega arith) c.bucket_cost.ensures _ c.in-Some.is

pub returns : goal.returns
returns c = adds_done c.loop-s.invariant (omega arith)
