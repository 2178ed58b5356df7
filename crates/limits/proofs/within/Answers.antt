use borrow.Author.Tests.{le-leb, lt-leb}
use mathlib.Core.Path.{ap, sym, ◌∙◌}
use Rattle.std.specs.Prelude.{◌&&◌}
use Rattle.definitions.specs.Basics.{leb}
use Rattle.definitions.specs.Limits.{within}
use Rattle.limits.specs.declared.Limit.{Limit}
use Rattle.limits.proofs.within.Goals as goal

pub returns-then-limit-value : goal.returns-then-limit-value
unfolding within
returns-then-limit-value c =
    let value = c.args.value in
    sym (ap (λ low. low && leb value c.limit_of-limit.result.1) (le-leb _ _ c.if-limit-value.true))
    ∙ ap (λ (l : Limit). leb l.0 value && leb value l.1) c.limit_of-limit.ensures

pub returns-else-limit-value : goal.returns-else-limit-value
unfolding within
returns-else-limit-value c =
    let value = c.args.value in
    lt-leb _ _ c.if-limit-value.false ∙ sym (ap (λ low. low && leb value c.limit_of-limit.result.1) (lt-leb _ _ c.if-limit-value.false))
    ∙ ap (λ (l : Limit). leb l.0 value && leb value l.1) c.limit_of-limit.ensures
