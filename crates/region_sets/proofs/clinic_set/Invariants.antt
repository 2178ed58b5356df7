use mathlib.Core.Path.{◌≡◌}
use Prim.Native.Nat.{ℕ, ◌≤◌}
use Rattle.std.specs.Prelude.{◌&&◌}
use Rattle.definitions.specs.Basics.{eqb, ltb}
use Rattle.patient_set.specs.Sets.{in_set}
use Rattle.held_region.specs.Meaning.{patient_in}
use Rattle.region_sets.proofs.clinic_set.Given as goal

abbrev pub invariant-loop-s : goal.invariant-loop-s
invariant-loop-s l = (l.s ≤ l.region.v) × ((q : ℕ) → in_set l.set.0 q ≡ (ltb q l.s && eqb (patient_in l.region q).clinic l.clinic))
