use Rattle.line_reader.proofs.Sums.{Summing}
use Rattle.line_reader.proofs.checksum_of.Given as goal

abbrev pub invariant-loop-b : goal.invariant-loop-b
invariant-loop-b l = Summing l.s l.sum l.b-index
