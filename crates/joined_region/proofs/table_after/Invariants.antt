use mathlib.Core.Path.{◌≡◌}
use Prim.Native.Nat.{◌+◌, ◌≤◌}
use lib.ListN.{length, get_or}
use Rattle.lists.specs.Filling.{Filled}
use Rattle.joined_region.proofs.table_after.Given as goal

abbrev pub invariant-loop-j : goal.invariant-loop-j
invariant-loop-j l = (length l.first ≡ 4) × (l.j ≤ l.table.members) × Filled (λ i s. s ≡ l.v + get_or l.table.first i 0) 0 l.j l.first
