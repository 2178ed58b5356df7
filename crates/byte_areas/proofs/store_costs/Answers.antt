use borrow.Author.Rules.{rules}
use mathlib.Core.Path.{refl, sym, ◌∙◌}
use Prim.Native.Nat.{◌<◌, ◌≤◌}
use native.Mathlib.Omega.{arith}
use lib.ListN.{length, take, length-take}
use lib.Seq.{get_or-take, length-take-le}
use Rattle.byte_areas.proofs.Stores.{numbers_all, numbers_next, numbers_done}
use Rattle.byte_areas.proofs.store_costs.Goals as goal

pub loop-i-init : goal.loop-i-init
loop-i-init c = (refl, numbers_all _ _ _)

pub loop-i-preserved : goal.loop-i-preserved
loop-i-preserved c =
    let stored = c in
    let turn = stored in
    let lent = turn.args in
    let i = turn.loop-i.i in
    let inside : i < lent.n = omega arith in
    let few : lent.n ≤ length lent.held.now = omega arith in (
      search rules,
      numbers_next 0 (take lent.n lent.held.now) _ i (omega (arith, length-take-le lent.n lent.held.now few))
          (stored.from.ensures ∙ sym (get_or-take lent.n lent.held.now i 0 inside)) (omega arith) stored.store_number.ensures
          ∙ turn.loop-i.invariant.1,
    )

pub returns : goal.returns
returns c =
    let lent = c.args in
    numbers_done 0 (take lent.n lent.held.now) _ _ (simp length-take (omega (arith, c.loop-i-test.false))) ∙ c.loop-i.invariant.1
