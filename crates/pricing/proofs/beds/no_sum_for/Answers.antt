use mathlib.Core.Path.{sym, ap}
use borrow.Author.Tests.{eq-eqb, ne_eqb}
use Rattle.definitions.specs.Basics.{cond}
use Rattle.held_region.specs.Meaning.{mark}
use Rattle.pricing.specs.Pricing.{no_sum}
use Rattle.pricing.proofs.beds.no_sum_for.Goals as goal

pub returns-then-entry-eq-FORBIDDEN : goal.returns-then-entry-eq-FORBIDDEN
returns-then-entry-eq-FORBIDDEN c = sym (ap (λ forbidden. cond forbidden no_sum 0) (eq-eqb _ mark c.if-entry-eq-FORBIDDEN.true))

pub returns : goal.returns
returns c = sym (ap (λ forbidden. cond forbidden no_sum 0) (ne_eqb _ mark c.if-entry-eq-FORBIDDEN.false))
