use mathlib.Core.Path.{◌≡◌}
use Prim.Native.Nat.{◌*◌, ◌≤◌}
use Rattle.held_region.specs.Meaning.{start_in}
use Rattle.entry_questions.proofs.entry_total.Given as goal

abbrev pub invariant-loop-i : goal.invariant-loop-i
invariant-loop-i l = (l.total ≤ l.i * 65_536) × (l.i ≤ l.region.t) × (l.total ≡ start_in l.region l.i)
