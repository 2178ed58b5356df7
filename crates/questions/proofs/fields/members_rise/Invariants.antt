use mathlib.Core.Path.{◌≡◌}
use Rattle.held_region.specs.Members.{rises_from, members_from}
use Rattle.held_region.specs.Meaning.{members_of}
use Rattle.questions.proofs.fields.members_rise.Given as goal

abbrev pub invariant-loop-i : goal.invariant-loop-i
invariant-loop-i l = rises_from l.v l.least (members_from l.table l.i) ≡ rises_from l.v 0 (members_of l.table)
