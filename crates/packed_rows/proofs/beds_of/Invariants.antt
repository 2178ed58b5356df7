use Rattle.std.proofs.Common.{◌≡◌}
use Rattle.packed_rows.proofs.Taking.{words_written}
use Rattle.packed_rows.proofs.beds_of.Given as goal

abbrev pub invariant-loop-j : goal.invariant-loop-j
invariant-loop-j l = l.beds ≡ words_written l.row.words l.j
