use mathlib.Core.Path.{◌≡◌}
use Prim.Native.Nat.{ℕ}
use Rattle.std.specs.Prelude.{◌&&◌}
use Rattle.definitions.specs.Basics.{eqb, ltb, get_or}
use Rattle.patient_set.specs.Sets.{in_set}
use Rattle.forest.proofs.tree.Given as goal

abbrev pub invariant-loop-s : goal.invariant-loop-s
invariant-loop-s l = (q : ℕ) → in_set l.set.0 q ≡ (ltb q l.s && eqb (get_or l.roots q 0) l.k)
