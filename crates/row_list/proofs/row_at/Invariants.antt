use Rattle.row_list.proofs.Reading.{Read}
use Rattle.row_list.proofs.row_at.Given as goal

abbrev pub invariant-loop-j : goal.invariant-loop-j
invariant-loop-j l = Read l.list l.i l.j l.words
