use mathlib.Core.Path.{◌≡◌}
use lib.ListN.{length, take}
use Rattle.definitions.specs.Outcomes.{written}
use Rattle.definitions.specs.Boundary.{bytes_of}
use Rattle.byte_areas.proofs.Stores.{numbers_left}
use Rattle.byte_areas.proofs.store_costs.Given as goal

abbrev pub invariant-loop-i : goal.invariant-loop-i
invariant-loop-i l = (length l.costs ≡ length l.initial.costs) × (numbers_left 0 (take l.n l.held) l.i l.costs ≡ written 0 8 (bytes_of 8) (take l.n l.held) l.initial.costs)
