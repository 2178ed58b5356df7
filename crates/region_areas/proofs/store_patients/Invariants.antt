use mathlib.Core.Path.{◌≡◌}
use Rattle.definitions.specs.Basics.{flat_map, below, length}
use Rattle.definitions.specs.Boundary.{numbers_after}
use Rattle.region_areas.specs.Laid.{parts_left, patient_part}
use Rattle.region_areas.proofs.store_patients.Given as goal

abbrev pub invariant-loop-s : goal.invariant-loop-s
invariant-loop-s l = (length l.patients ≡ length l.initial.patients) × (parts_left 4 (patient_part l.region) l.region.v l.s l.patients ≡ numbers_after (flat_map (patient_part l.region) (below l.region.v)) l.initial.patients)
