use Rattle.packed_rows.proofs.Adding.{Added}
use Rattle.packed_rows.proofs.add_rows.Given as goal

abbrev pub invariant-loop-j : goal.invariant-loop-j
invariant-loop-j l = Added l.x.words l.y.words l.j l.words
