use mathlib.Core.Path.{◌≡◌, ap, ◌∙◌}
use native.Mathlib.Omega.{arith}
use Rattle.std.specs.Prelude.{◌&&◌}
use Rattle.definitions.specs.Basics.{eqb, ltb}
use Rattle.held_region.specs.Meaning.{patient_in}
use Rattle.held_region.specs.Related.{clinic_members}
use Rattle.region_sets.proofs.clinic_set.Goals as goal

pub returns : goal.returns
returns c =
    let region = c.args.region in
    let clinic = c.args.clinic in
    let last : c.loop-s.s ≡ region.v = omega arith in
    λ store. clinic_members region store clinic _ c.requires.patients
    (λ q. c.loop-s.invariant.1 q ∙ ap (λ s. ltb q s && eqb (patient_in region q).clinic clinic) last)
