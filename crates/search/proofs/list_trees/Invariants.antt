use lib.ListN.{length}
use Rattle.search.proofs.Forests.{Listed}
use Rattle.search.proofs.list_trees.Given as goal

abbrev pub invariant-loop-k : goal.invariant-loop-k
invariant-loop-k l = Listed l.sources.entries.now l.sources.buckets.now.patients l.sources.buckets.now.terms l.roots l.sources.v l.sources.m (length l.initial.work) l.work l.n l.k
