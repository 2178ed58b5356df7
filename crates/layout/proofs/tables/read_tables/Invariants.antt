use Prim.Native.Nat.{◌-◌}
use lib.ListN.{length}
use Rattle.layout.specs.TableLines.{TablesSoFar}
use Rattle.layout.proofs.tables.read_tables.Given as goal

abbrev pub invariant-loop-i : goal.invariant-loop-i
invariant-loop-i l = TablesSoFar l.file l.at l.initial.store l.first l.count l.used l.i l.store

abbrev pub decreases-loop-i : goal.decreases-loop-i
decreases-loop-i l = length l.file - l.i
