use borrow.Author.Rules.{rules}
use mathlib.Core.Path.{refl, ◌∙◌}
use native.Mathlib.Omega.{arith}
use Rattle.region_areas.specs.Laid.{parts_all, parts_next, parts_done, entry_part, entry_laid}
use Rattle.region_areas.proofs.store_entries.Goals as goal

pub loop-k-init : goal.loop-k-init
loop-k-init c = (refl, parts_all _ _ _ _)

pub loop-k-preserved : goal.loop-k-preserved
loop-k-preserved c =
    let stored = c in
    let valued = stored in
    let turn = valued in
    let lent = turn.args in (
      search rules,
      parts_next 1 (entry_part lent.store.now) lent.total _ turn.loop-k.k valued.loop-k-test.true refl
          (entry_laid lent.store.now turn.loop-k.entries turn.loop-k.k (grind arith) stored.store_number.ensures) ∙ turn.loop-k.invariant.1,
    )

pub returns : goal.returns
returns c = parts_done _ _ _ _ _ c.loop-k-test.false ∙ c.loop-k.invariant.1
