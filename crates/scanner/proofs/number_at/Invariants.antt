use Rattle.std.proofs.Common.{◌-◌, ◌<◌, length}
use Rattle.scanner.proofs.Numbers.{Reading}
use Rattle.scanner.proofs.number_at.Given as goal

-- The first digit is read before the loop.
abbrev pub invariant-loop-d : goal.invariant-loop-d
invariant-loop-d l = Reading l.s l.at l.value l.i × (l.at < l.i)

abbrev pub decreases-loop-d : goal.decreases-loop-d
decreases-loop-d l = length l.s - l.i
