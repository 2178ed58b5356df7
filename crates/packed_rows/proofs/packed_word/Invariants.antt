use Rattle.std.proofs.Common.{◌-◌}
use Rattle.packed_rows.specs.Packed.{packable}
use Rattle.packed_rows.proofs.Packing.{Packed}
use Rattle.packed_rows.proofs.packed_word.Given as goal

abbrev pub invariant-loop-s : goal.invariant-loop-s
invariant-loop-s l = Packed (packable l.v l.beds) l.first (l.s - l.first) l.word
