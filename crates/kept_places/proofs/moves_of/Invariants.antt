use Prim.Native.Nat.{◌+◌, ◌*◌}
use Rattle.kept_places.specs.Moves.{Linked}
use Rattle.kept_places.proofs.moves_of.Given as goal

abbrev pub invariant-loop-k : goal.invariant-loop-k
invariant-loop-k l = Linked l.buckets.terms (l.k * 3 + 0) l.moves
