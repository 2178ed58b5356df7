use mathlib.Core.Path.{refl, ap, ◌∙◌}
use Prim.Native.Nat.{◌+◌}
use Rattle.buckets.specs.Least.{lowest, codes_in, code_lower, code_kept, codes_done, none_found, number_found}
use Rattle.buckets.proofs.least_number.Goals as goal

pub loop-i-init : goal.loop-i-init
loop-i-init c = refl

pub loop-i-preserved : goal.loop-i-preserved
loop-i-preserved c =
    let args = c.args in
    let at = c.loop-i in
    let more = c.loop-i-test.true in
    elim c.if-code-least.branch [
      | goal.then-code-least w ↦ ap (λ n. lowest n (codes_in args.entries.now (at.i + 1) args.to)) w.least-is ∙ code_lower _ _ _ _ at.invariant more w.if-code-least.true
      | goal.else-code-least w ↦ ap (λ n. lowest n (codes_in args.entries.now (at.i + 1) args.to)) w.least-is ∙ code_kept _ _ _ _ at.invariant more w.if-code-least.false
    ]

pub returns-then-least : goal.returns-then-least
returns-then-least c = none_found _ _ _ _ (codes_done _ _ _ _ c.loop-i.invariant c.loop-i-test.false) c.if-least.true

pub returns-else-least : goal.returns-else-least
returns-else-least c = number_found _ _ _ _ (codes_done _ _ _ _ c.loop-i.invariant c.loop-i-test.false) c.if-least.false
