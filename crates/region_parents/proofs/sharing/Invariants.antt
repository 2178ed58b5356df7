use Prim.Native.Nat.{◌≤◌}
use Rattle.region_parents.specs.Neighbours.{Near, tables_from}
use Rattle.region_parents.proofs.sharing.Given as goal

abbrev pub invariant-loop-i : goal.invariant-loop-i
invariant-loop-i l = (l.i ≤ l.region.t) × Near (tables_from l.region l.i) l.near
