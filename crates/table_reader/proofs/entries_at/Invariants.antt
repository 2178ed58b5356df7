use Prim.Native.Nat.{◌-◌}
use lib.ListN.{length}
use Rattle.definitions.specs.Layout.{hyphen_or_number}
use Rattle.table_reader.specs.TableReading.{ItemsSoFar, EntriesAdded}
use Rattle.table_reader.proofs.entries_at.Given as goal

abbrev pub invariant-loop-entry : goal.invariant-loop-entry
invariant-loop-entry l = ItemsSoFar hyphen_or_number (EntriesAdded l.used l.initial.store l.store) l.line l.at l.count l.i

abbrev pub decreases-loop-entry : goal.decreases-loop-entry
decreases-loop-entry l = length l.line - l.i
