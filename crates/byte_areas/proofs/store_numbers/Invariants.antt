use mathlib.Core.Path.{◌≡◌}
use lib.ListN.{length}
use Rattle.definitions.specs.Outcomes.{written}
use Rattle.definitions.specs.Boundary.{bytes_of}
use Rattle.byte_areas.proofs.Stores.{numbers_left}
use Rattle.byte_areas.proofs.store_numbers.Given as goal

abbrev pub invariant-loop-i : goal.invariant-loop-i
invariant-loop-i l = (length l.area ≡ length l.initial.area) × (numbers_left l.at l.numbers l.i l.area ≡ written l.at 8 (bytes_of 8) l.numbers l.initial.area)
