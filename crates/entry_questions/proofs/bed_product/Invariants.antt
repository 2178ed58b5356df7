use mathlib.Core.Path.{◌≡◌}
use mathlib.Core.List.{map}
use Prim.Native.Nat.{◌*◌, ◌^◌, ◌≤◌}
use Rattle.definitions.specs.Basics.{product}
use Rattle.held_region.specs.Sound.{bed_count_in}
use Rattle.held_region.specs.Members.{members_from}
use Rattle.held_region.specs.Meaning.{members_of}
use Rattle.entry_questions.proofs.bed_product.Given as goal

abbrev pub invariant-loop-i : goal.invariant-loop-i
invariant-loop-i l = (l.n ≤ 16 ^ l.i) × (l.n * product (map (bed_count_in l.patients) (members_from l.table l.i)) ≡ product (map (bed_count_in l.patients) (members_of l.table)))
