use Rattle.line_reader.proofs.Sums.{summing_fits}
use Rattle.line_reader.proofs.checksum_of.Goals as goal

pub overflow_add-sum : goal.overflow_add-sum
overflow_add-sum c =
    let l = c.loop-b in
    record { fits = rw c.from-sum.ensures (summing_fits l.invariant c.loop-b-test.true (c.type_inv.s l.b-index).fits c.requires) }
