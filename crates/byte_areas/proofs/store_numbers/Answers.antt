use borrow.Author.Rules.{rules}
use mathlib.Core.Path.{refl, ◌∙◌}
use native.Mathlib.Omega.{arith}
use Rattle.byte_areas.proofs.Stores.{numbers_all, numbers_next, numbers_done}
use Rattle.byte_areas.proofs.store_numbers.Goals as goal

pub loop-i-init : goal.loop-i-init
loop-i-init c = (refl, numbers_all _ _ _)

pub loop-i-preserved : goal.loop-i-preserved
loop-i-preserved c =
    let stored = c in
    let turn = stored in
    let lent = turn.args in (
      search rules,
      numbers_next lent.at lent.numbers.now _ turn.loop-i.i (omega arith) refl refl stored.store_number.ensures ∙ turn.loop-i.invariant.1,
    )

pub returns : goal.returns
returns c = numbers_done _ _ _ _ c.loop-i-test.false ∙ c.loop-i.invariant.1
