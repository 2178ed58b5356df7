use Prim.Native.Nat.{◌≤◌}
use Rattle.region_parents.specs.Making.{Underway}
use Rattle.region_parents.proofs.make_patients.Given as goal

abbrev pub invariant-loop-s : goal.invariant-loop-s
invariant-loop-s l = (l.s ≤ l.region.v) × Underway l.region l.s l.near l.patients
