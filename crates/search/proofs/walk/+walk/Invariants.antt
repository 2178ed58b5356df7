use lib.ListN.{length}
use Rattle.patient_set.specs.Sets.{members}
use Rattle.search.specs.Walks.{branch_at}
use Rattle.search.proofs.Walking.{Sofar}
use Rattle.search.proofs.walk.+walk.Given as goal

abbrev pub invariant-loop-bed : goal.invariant-loop-bed
invariant-loop-bed l = Sofar l.sources.entries.now l.sources.buckets.now.patients l.sources.buckets.now.terms l.sources.v l.n l.sources.m l.initial.list (branch_at l.head l.beds) l.s l.first l.end l.list l.places l.found l.counted l.bed

-- How many patients are left.
abbrev pub decreases-walk : goal.decreases-walk
decreases-walk l = length (members l.head.left.0)
