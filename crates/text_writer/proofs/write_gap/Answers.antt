use mathlib.Core.Path.{refl}
use native.Mathlib.Omega.{arith}
use Rattle.text_writer.proofs.Turns.{no_gap, one_gap}
use Rattle.text_writer.proofs.write_gap.Goals as goal

pub returns-then-i-eq0 : goal.returns-then-i-eq0
returns-then-i-eq0 c = rw (no_gap _ c.if-i-eq0.true) (record { bytes = refl; next = omega arith })

pub write_byte-requires : goal.write_byte-requires
write_byte-requires c = rw (one_gap _ c.if-i-eq0.false) at c.requires

pub returns : goal.returns
returns c = rw (one_gap _ c.if-i-eq0.false) c.write_byte.ensures
