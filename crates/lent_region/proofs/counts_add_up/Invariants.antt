use mathlib.Core.Path.{◌≡◌}
use Prim.Native.Nat.{◌+◌, ◌≤◌}
use Rattle.definitions.specs.Boundary.{lent_table_count, lent_entries_before}
use Rattle.lent_region.proofs.counts_add_up.Given as goal

abbrev pub invariant-loop-i : goal.invariant-loop-i
invariant-loop-i l = (l.i ≤ lent_table_count l.tables) × (l.left + lent_entries_before l.tables l.i ≡ l.total)
