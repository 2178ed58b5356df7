use Rattle.line_reader.specs.Lines.{Seeking}
use Rattle.line_reader.proofs.line_end.Given as goal

abbrev pub invariant-loop-i : goal.invariant-loop-i
invariant-loop-i l = Seeking l.s l.at l.i
