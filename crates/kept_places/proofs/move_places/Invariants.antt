use Prim.Native.Nat.{◌-◌}
use Rattle.kept_places.proofs.Moving.{Halfway}
use Rattle.kept_places.proofs.move_places.Given as goal

abbrev pub invariant-loop-at : goal.invariant-loop-at
invariant-loop-at l = Halfway l.moves l.s l.old l.new l.initial.places l.places l.at

abbrev pub decreases-loop-at : goal.decreases-loop-at
decreases-loop-at l = 192 - l.at
