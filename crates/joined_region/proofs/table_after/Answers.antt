use borrow.Author.Rules.{rules}
use mathlib.Core.Path.{refl}
use native.Mathlib.Omega.{arith}
use Rattle.lists.specs.Filling.{filled_none, filled_more, filled_all}
use Rattle.joined_region.specs.Joined.{table_moved}
use Rattle.joined_region.proofs.table_after.Goals as goal

pub loop-j-init : goal.loop-j-init
loop-j-init c = (search rules, omega arith, filled_none)

pub overflow_add-first : goal.overflow_add-first
overflow_add-first c =
    omega (arith, c.requires.small c.loop-j.j c.loop-j-test.true)

pub loop-j-preserved : goal.loop-j-preserved
loop-j-preserved c =
    (search rules, omega arith, filled_more _ c.loop-j.invariant.2 (omega arith) refl)

pub returns : goal.returns
returns c =
    table_moved (filled_all _ c.loop-j.invariant.2 c.loop-j-test.false) refl refl
