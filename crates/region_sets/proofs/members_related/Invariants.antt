use mathlib.Core.Path.{◌≡◌}
use Rattle.definitions.specs.Basics.{ℕ, List}
use Rattle.definitions.specs.Questions.{members_related}
use Rattle.held_region.specs.Meaning.{table_in, members_of, said}
use Rattle.lists.specs.Loops.{asked_from}
use Rattle.held_region.specs.Related.{related}
use Rattle.region_sets.proofs.members_related.Given as goal

abbrev pub invariant-loop-i : goal.invariant-loop-i
invariant-loop-i l = (store : List ℕ) → asked_from (λ j. related (said l.region store) (members_of (table_in l.region j))) l.region.t l.i ≡ members_related (said l.region store)
