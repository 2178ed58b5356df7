use borrow.Author.Tests.{eq-eqb, ne_eqb}
use Rattle.entry_questions.proofs.entry_fits.Goals as goal

pub returns-then-entry-eq-FORBIDDEN : goal.returns-then-entry-eq-FORBIDDEN
returns-then-entry-eq-FORBIDDEN c = simp (eq-eqb _ _ c.if-entry-eq-FORBIDDEN.true)

pub returns-else-entry-eq-FORBIDDEN : goal.returns-else-entry-eq-FORBIDDEN
returns-else-entry-eq-FORBIDDEN c = simp (ne_eqb _ _ c.if-entry-eq-FORBIDDEN.false, c.within.ensures)
