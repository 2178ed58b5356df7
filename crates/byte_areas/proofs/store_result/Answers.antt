use borrow.Author.Rules.{rules}
use mathlib.Core.Path.{refl, ◌∙◌}
use native.Mathlib.Omega.{arith}
use Rattle.byte_areas.specs.Results.{result_written, result_short}
use Rattle.byte_areas.proofs.Stores.{numbers_all, numbers_next, numbers_done}
use Rattle.byte_areas.proofs.store_result.Goals as goal

pub returns-then-res : goal.returns-then-res
returns-then-res g c = result_short _ _ (omega arith)

pub loop-i-init : goal.loop-i-init
loop-i-init g c = (refl, numbers_all _ _ _)

-- The place is judged by its value, in each case where a test decides it.
pub loop-i-preserved : goal.loop-i-preserved
loop-i-preserved g c = (
  search rules,
  numbers_next 0 c.args.numbers.now _ c.loop-i.i (omega arith) refl (grind arith) c.store_number.ensures ∙ c.loop-i.invariant.1,
)

pub returns : goal.returns
returns g c = numbers_done _ _ _ _ (omega arith) ∙ c.loop-i.invariant.1 ∙ result_written _ _ (omega arith)
