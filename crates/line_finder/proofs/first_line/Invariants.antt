use Prim.Native.Nat.{◌-◌}
use lib.ListN.{length}
use Rattle.theorems.specs.Lookup.{begins}
use Rattle.line_finder.proofs.Searching.{Searching}
use Rattle.line_finder.proofs.first_line.Given as goal

abbrev pub invariant-loop-start : goal.invariant-loop-start
invariant-loop-start l = Searching (begins l.typed) l.file l.start

abbrev pub decreases-loop-start : goal.decreases-loop-start
decreases-loop-start l = length l.file - l.start
