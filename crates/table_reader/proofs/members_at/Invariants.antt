use Prim.Native.Nat.{◌-◌}
use lib.ListN.{length}
use Rattle.definitions.specs.Layout.{number}
use Rattle.table_reader.specs.TableReading.{ItemsSoFar, MembersHeld}
use Rattle.table_reader.proofs.members_at.Given as goal

abbrev pub invariant-loop-member : goal.invariant-loop-member
invariant-loop-member l = ItemsSoFar number (MembersHeld l.first) l.line l.at l.count l.i

abbrev pub decreases-loop-member : goal.decreases-loop-member
decreases-loop-member l = length l.line - l.i
