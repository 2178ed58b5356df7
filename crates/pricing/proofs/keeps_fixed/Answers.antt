use native.Mathlib.Omega.{arith}
use mathlib.Core.Path.{refl, sym, ◌∙◌}
use Rattle.lists.specs.Loops.{ask_all, ask_yes, ask_no, ask_done}
use Rattle.pricing.proofs.keeps_fixed.Goals as goal

pub loop-s-init : goal.loop-s-init
loop-s-init c = ask_all _ _ refl

pub returns-then-not-is_permitted : goal.returns-then-not-is_permitted
returns-then-not-is_permitted c =
    let read = c in
    let loop = read in
    let a = loop.args in
    ask_no _ _ _ (omega arith) (sym c.is_permitted.ensures ∙ c.if-not-is_permitted.true) loop.loop-s.invariant

pub loop-s-preserved : goal.loop-s-preserved
loop-s-preserved c =
    let read = c in
    let loop = read in
    let a = loop.args in
    ask_yes _ _ _ (omega arith) (sym c.is_permitted.ensures ∙ c.if-not-is_permitted.false) loop.loop-s.invariant

pub returns : goal.returns
returns c = ask_done _ _ _ (omega arith) c.loop-s.invariant
