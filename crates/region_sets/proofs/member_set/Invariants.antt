use mathlib.Core.Path.{◌≡◌}
use Prim.Native.Nat.{ℕ}
use Rattle.std.specs.Prelude.{◌||◌}
use Rattle.definitions.specs.Basics.{contains}
use Rattle.patient_set.specs.Sets.{in_set}
use Rattle.held_region.specs.Members.{members_from}
use Rattle.held_region.specs.Meaning.{members_of}
use Rattle.region_sets.proofs.member_set.Given as goal

abbrev pub invariant-loop-place : goal.invariant-loop-place
invariant-loop-place l = (q : ℕ) → (in_set l.set.0 q || contains (members_from l.table l.place) q) ≡ contains (members_of l.table) q
