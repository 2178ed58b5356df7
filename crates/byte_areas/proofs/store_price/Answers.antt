use mathlib.Core.Path.{ap, ◌∙◌}
use Rattle.std.specs.Prelude.{◌∷◌}
use Rattle.definitions.specs.Basics.{[]}
use Rattle.definitions.specs.Boundary.{result_after}
use Rattle.byte_areas.proofs.Stores.{flag_number}
use Rattle.byte_areas.proofs.store_price.Goals as goal

pub returns : goal.returns
returns c =
    let stored = c in
    let lent = stored.args in
    stored.store_result.ensures ∙ ap (λ n. result_after (n ∷ lent.total ∷ []) lent.res.now) (stored.from.ensures ∙ flag_number lent.allowed)
