use mathlib.Core.Path.{◌≡◌}
use Rattle.definitions.specs.Basics.{flat_map, below, length}
use Rattle.definitions.specs.Boundary.{numbers_after}
use Rattle.region_areas.specs.Laid.{parts_left, table_part}
use Rattle.region_areas.proofs.store_tables.Given as goal

abbrev pub invariant-loop-i : goal.invariant-loop-i
invariant-loop-i l = (length l.tables ≡ length l.initial.tables) × (parts_left 6 (table_part l.region) l.region.t l.i l.tables ≡ numbers_after (flat_map (table_part l.region) (below l.region.t)) l.initial.tables)
