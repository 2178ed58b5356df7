use mathlib.Core.Path.{◌≡◌}
use lib.ListN.{length}
use Rattle.lent_region.specs.Lent.{TablesLent}
use Rattle.lent_region.proofs.first_tables.Given as goal

abbrev pub invariant-loop-i : goal.invariant-loop-i
invariant-loop-i l = (length l.first ≡ 64) × TablesLent l.tables l.i l.first
