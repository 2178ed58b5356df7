use Rattle.buckets.specs.Written.{MembersSoFar}
use Rattle.buckets.proofs.term_members.Given as goal

abbrev pub invariant-loop-j : goal.invariant-loop-j
invariant-loop-j l = MembersSoFar l.patients l.table l.j l.stride l.members
