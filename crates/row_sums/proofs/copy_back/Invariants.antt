use Rattle.row_sums.specs.Steps.{Copied}
use Rattle.row_sums.proofs.copy_back.Given as goal

abbrev pub invariant-loop-i : goal.invariant-loop-i
invariant-loop-i l = Copied l.i l.initial.work l.work
