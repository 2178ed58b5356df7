use Rattle.row_sums.specs.Steps.{Found}
use Rattle.row_sums.proofs.combine.Given as goal

abbrev pub invariant-loop-i : goal.invariant-loop-i
invariant-loop-i l = Found l.m l.b l.i l.initial.work l.work l.n
