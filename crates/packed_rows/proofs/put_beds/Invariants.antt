use Rattle.std.proofs.Common.{◌≡◌}
use Rattle.packed_rows.proofs.Taking.{first_written}
use Rattle.packed_rows.proofs.put_beds.Given as goal

abbrev pub invariant-loop-k : goal.invariant-loop-k
invariant-loop-k l = l.beds ≡ first_written l.initial.beds l.first l.word l.k
