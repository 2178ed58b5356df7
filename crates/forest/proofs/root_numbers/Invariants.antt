use mathlib.Core.Path.{◌≡◌}
use lib.ListN.{length}
use Rattle.forest.proofs.Roots.{RootNumbersTo}
use Rattle.forest.proofs.root_numbers.Given as goal

abbrev pub invariant-loop-s : goal.invariant-loop-s
invariant-loop-s l = (length l.roots ≡ 32) × RootNumbersTo l.region l.s l.roots
