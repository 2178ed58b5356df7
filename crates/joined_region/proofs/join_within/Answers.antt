use mathlib.Core.Path.{refl, sym, ap₂, ◌∙◌}
use Prim.Native.Nat.{◌+◌}
use Rattle.definitions.specs.Limits.{entry_count, within}
use Rattle.lists.specs.Tests.{answered_no, answered_yes}
use Rattle.joined_region.specs.Joined.{within_asked}
use mathlib.Core.Path.{ap}
use mathlib.Core.Bool.{not}
use Rattle.joined_region.proofs.join_within.Goals as goal

pub returns-then-not-within : goal.returns-then-not-within
returns-then-not-within c =
    λ store other. sym (within_asked _ _ store other (answered_no c.within.ensures (ap not c.if-not-within.true)) refl refl)

pub returns-then-not-within-2 : goal.returns-then-not-within-2
returns-then-not-within-2 c =
    λ store other. sym (within_asked _ _ store other (answered_yes c.within.ensures (ap not c.if-not-within.false)) (answered_no c.within-2.ensures (ap not c.if-not-within-2.true)) refl)

pub returns : goal.returns
returns c =
    let entries = c.within-3.ensures ∙ ap₂ (λ a b. within entry_count (a + b)) c.entry_total.ensures c.entry_total-2.ensures in
    λ store other. sym (within_asked _ _ store other (answered_yes c.within.ensures (ap not c.if-not-within.false)) (answered_yes c.within-2.ensures (ap not c.if-not-within-2.false)) (sym entries))
