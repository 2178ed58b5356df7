use Rattle.scanner.proofs.Letters.{Passing}
use Rattle.scanner.proofs.letters_at.Given as goal

abbrev pub invariant-loop-asked : goal.invariant-loop-asked
invariant-loop-asked l = Passing l.letters l.s l.at l.next l.asked-index
