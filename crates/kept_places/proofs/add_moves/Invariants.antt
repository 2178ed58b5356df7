use Prim.Native.Nat.{◌+◌, ◌*◌}
use Rattle.kept_places.specs.Moves.{Linked}
use Rattle.kept_places.proofs.add_moves.Given as goal

abbrev pub invariant-loop-j : goal.invariant-loop-j
invariant-loop-j l = Linked l.buckets.terms (l.k * 3 + l.j) l.moves
