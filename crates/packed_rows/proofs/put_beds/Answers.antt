use Rattle.std.proofs.Common.{arith, refl, ◌∙◌}
use Rattle.packed_rows.proofs.Taking.{one_written, all_written}
use Rattle.packed_rows.proofs.put_beds.Goals as goal

pub loop-k-preserved : goal.loop-k-preserved
loop-k-preserved c =
    let l = c.loop-k in
    let a = c.args in
    rw (← l.invariant) at (one_written a.beds.now a.first a.word l.k _ _ (omega arith) (omega arith) c.bits_behind.ensures refl)

pub returns : goal.returns
returns c = let a = c.args in c.loop-k.invariant ∙ all_written a.beds.now a.first a.word c.loop-k.k (omega arith)
