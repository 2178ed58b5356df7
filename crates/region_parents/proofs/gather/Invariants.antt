use mathlib.Core.Path.{◌≡◌}
use lib.ListN.{length}
use Rattle.patient_set.specs.Sets.{left_in}
use Rattle.region_parents.specs.Neighbours.{Walked}
use Rattle.region_parents.proofs.gather.Given as goal

abbrev pub invariant-loop-s : goal.invariant-loop-s
invariant-loop-s l = (length l.near ≡ 32) × Walked l.fn.near l.group.0 (left_in l.s-iterator) l.near
