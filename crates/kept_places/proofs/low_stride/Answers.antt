use mathlib.Core.Path.{sym, ◌∙◌}
use Rattle.kept_places.proofs.Strides.{low_last, low_inner}
use Rattle.kept_places.proofs.low_stride.Goals as goal

pub returns-then-stride-eq0 : goal.returns-then-stride-eq0
returns-then-stride-eq0 c =
    let a = c.args in
    sym (low_last a.buckets.now.terms a.k a.j (sym c.stride.ensures ∙ c.if-stride-eq0.true))

pub returns : goal.returns
returns c =
    let a = c.args in
    c.stride-2.ensures ∙ sym (low_inner a.buckets.now.terms a.k a.j (λ e. c.if-stride-eq0.false (c.stride.ensures ∙ e)))
