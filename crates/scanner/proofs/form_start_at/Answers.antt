use Rattle.std.proofs.Common.{[], ◌∷◌}
use Rattle.scanner.proofs.Words.{then_read, then_missing}
use Rattle.scanner.proofs.form_start_at.Goals as goal

pub returns-in_err-start : goal.returns-in_err-start
returns-in_err-start c = rw c.from_residual.ensures (then_missing (40 ∷ []) c.args.word.now c.in_err-start.ensures)

pub returns : goal.returns
returns c = then_read (40 ∷ []) c.args.word.now c.in_ok-start.ensures c.letters_at.ensures
