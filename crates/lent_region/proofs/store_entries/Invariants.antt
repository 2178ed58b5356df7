use mathlib.Core.Path.{◌≡◌}
use lib.ListN.{length}
use Rattle.lent_region.specs.Lent.{EntriesLent}
use Rattle.lent_region.proofs.store_entries.Given as goal

abbrev pub invariant-loop-k : goal.invariant-loop-k
invariant-loop-k l = (length l.store ≡ 4096) × EntriesLent l.entries l.k l.store
