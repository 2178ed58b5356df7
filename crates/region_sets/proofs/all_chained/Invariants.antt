use mathlib.Core.Path.{◌≡◌}
use Rattle.definitions.specs.Basics.{ltb, every, keep}
use Rattle.patient_set.specs.Sets.{members, left_in}
use Rattle.held_region.specs.Related.{set_in, chained}
use Rattle.region_sets.proofs.all_chained.Given as goal

abbrev pub invariant-loop-b : goal.invariant-loop-b
invariant-loop-b l = every (λ b. every (set_in l.ancestors b) (keep (λ q. ltb q b) (members l.set.0))) (left_in l.b-iterator) ≡ chained (set_in l.ancestors) (members l.set.0)
