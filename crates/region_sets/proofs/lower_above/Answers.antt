use mathlib.Core.Path.{ap, ◌∙◌}
use Rattle.std.specs.Prelude.{◌&&◌}
use Rattle.definitions.specs.Basics.{not}
use Rattle.patient_set.specs.Sets.{in_set}
use Rattle.held_region.specs.Sets.{lower_left}
use Rattle.region_sets.proofs.lower_above.Goals as goal

pub returns : goal.returns
returns c =
    let set = c.args.set.0 in
    let ancestors = c.args.ancestors.0 in
    c.is_empty.ensures
    ∙ lower_left set ancestors _ _
    (λ q. c.minus.ensures q ∙ ap (λ x. x && not (in_set ancestors q)) (c.meet-lower.ensures q ∙ ap (λ x. in_set set q && x) (c.below.ensures q)))
