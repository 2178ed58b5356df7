use Rattle.row_writer.proofs.Turns.{Sofar}
use Rattle.row_writer.proofs.write_rows.Given as goal

abbrev pub invariant-loop-r : goal.invariant-loop-r
invariant-loop-r l = Sofar l.v l.n l.list l.initial.beds l.initial.costs l.beds l.costs l.r
