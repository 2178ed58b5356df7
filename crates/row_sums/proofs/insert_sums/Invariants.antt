use Rattle.row_sums.specs.Steps.{Joined}
use Rattle.row_sums.proofs.insert_sums.Given as goal

abbrev pub invariant-loop-j : goal.invariant-loop-j
invariant-loop-j l = Joined l.m l.n l.j l.x l.initial.work l.work l.count
