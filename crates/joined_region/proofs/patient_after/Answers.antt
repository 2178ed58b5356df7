use Rattle.std.proofs.Common.{rules, ap}
use Rattle.held_region.specs.Meaning.{optional}
use Rattle.joined_region.proofs.patient_after.Goals as goal

pub map-requires : goal.map-requires
map-requires c = λ q e. let small = c.requires q (ap optional e) in search rules
