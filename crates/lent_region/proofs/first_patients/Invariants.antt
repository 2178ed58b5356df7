use mathlib.Core.Path.{◌≡◌}
use lib.ListN.{length}
use Rattle.lent_region.specs.Lent.{PatientsLent}
use Rattle.lent_region.proofs.first_patients.Given as goal

abbrev pub invariant-loop-s : goal.invariant-loop-s
invariant-loop-s l = (length l.first ≡ 32) × PatientsLent l.patients l.s l.first
