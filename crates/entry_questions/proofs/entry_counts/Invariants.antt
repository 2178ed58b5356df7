use Rattle.entry_questions.proofs.Counting.{Counting}
use Rattle.entry_questions.proofs.entry_counts.Given as goal

abbrev pub invariant-loop-i : goal.invariant-loop-i
invariant-loop-i l = Counting l.region l.n l.i
