use Rattle.std.proofs.Common.{[], ◌∷◌}
use Rattle.scanner.proofs.Bytes.{closing, line_end}
use Rattle.scanner.proofs.Words.{then_read, then_missing}
use Rattle.scanner.proofs.form_end_at.Goals as goal

pub returns-in_err-end : goal.returns-in_err-end
returns-in_err-end c = rw c.from_residual.ensures (then_missing (41 ∷ []) (10 ∷ []) (c.in_err-end.ensures 41 closing))

pub returns : goal.returns
returns c = then_read (41 ∷ []) (10 ∷ []) (c.in_ok-end.ensures 41 closing) (c.one_at-2.ensures 10 line_end)
