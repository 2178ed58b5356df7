use mathlib.Core.Path.{◌≡◌}
use lib.ListN.{length}
use Rattle.definitions.specs.Outcomes.{written}
use Rattle.definitions.specs.Boundary.{bytes_of}
use Rattle.byte_areas.proofs.Stores.{numbers_left}
use Rattle.byte_areas.proofs.store_result.Given as goal

abbrev pub invariant-loop-i : goal.invariant-loop-i
invariant-loop-i g l = (length l.res ≡ length l.initial.res) × (numbers_left 0 l.numbers l.i l.res ≡ written 0 8 (bytes_of 8) l.numbers l.initial.res)
