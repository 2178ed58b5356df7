use Rattle.patient_set.specs.Sets.{members, left_in}
use Rattle.search.proofs.Leasts.{Adding}
use Rattle.search.proofs.least_sum.Given as goal

abbrev pub invariant-loop-s : goal.invariant-loop-s
invariant-loop-s l = Adding l.buckets.patients (members l.fn.set.0) (left_in l.s-iterator) l.n
