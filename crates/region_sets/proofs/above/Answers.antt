use mathlib.Core.Path.{ap}
use Rattle.held_region.specs.Meaning.{optional}
use Rattle.region_sets.proofs.above.Goals as goal

pub bounds-sets-p : goal.bounds-sets-p
bounds-sets-p c = c.requires _ (ap optional c.in-Some.is)

pub add-requires : goal.add-requires
add-requires c = c.requires _ (ap optional c.in-Some.is)
