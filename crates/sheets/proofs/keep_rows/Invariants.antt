use Rattle.sheets.proofs.Walking.{Walked}
use Rattle.sheets.proofs.keep_rows.Given as goal

abbrev pub invariant-loop-i : goal.invariant-loop-i
invariant-loop-i l = Walked l.entries l.buckets.patients l.buckets.terms l.v l.n l.clinic.0 l.initial.work l.i l.work l.count
