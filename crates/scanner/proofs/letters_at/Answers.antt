use Rattle.std.proofs.Common.{sym, ◌∙◌, arith}
use Rattle.scanner.proofs.Letters.{letter_same, letter_other, letter_missing}
use Rattle.scanner.proofs.letters_at.Goals as goal

pub returns-in_default : goal.returns-in_default
returns-in_default c = letter_missing c.loop-asked.invariant c.requires c.loop-asked-test.true c.class_at.ensures c.in_default.not-Letter

pub returns-then-letter-asked : goal.returns-then-letter-asked
returns-then-letter-asked c =
    letter_other c.loop-asked.invariant (sym c.class_at.ensures ∙ c.in-Letter.is) c.loop-asked-test.true (λ e. omega arith)

pub loop-asked-preserved : goal.loop-asked-preserved
loop-asked-preserved c =
    letter_same c.loop-asked.invariant (sym c.class_at.ensures ∙ c.in-Letter.is) c.loop-asked-test.true (omega arith)
