use mathlib.Core.Path.{◌≡◌}
use Rattle.definitions.specs.Basics.{flat_map, below, length}
use Rattle.definitions.specs.Boundary.{numbers_after}
use Rattle.region_areas.specs.Laid.{parts_left, entry_part}
use Rattle.region_areas.proofs.store_entries.Given as goal

abbrev pub invariant-loop-k : goal.invariant-loop-k
invariant-loop-k l = (length l.entries ≡ length l.initial.entries) × (parts_left 1 (entry_part l.store) l.total l.k l.entries ≡ numbers_after (flat_map (entry_part l.store) (below l.total)) l.initial.entries)
