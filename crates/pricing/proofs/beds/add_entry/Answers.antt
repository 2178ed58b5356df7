use native.Mathlib.Omega.{arith}
use Rattle.pricing.proofs.Adding.{add-one, added_most}
use Rattle.pricing.proofs.beds.add_entry.Goals as goal

pub overflow_add-result-2 : goal.overflow_add-result-2
overflow_add-result-2 c = omega (arith, c.requires.1, added_most c.args.entry c.no_sum_for.ensures)

pub returns : goal.returns
returns c = add-one _ _ _ c.requires.0 (omega arith) c.no_sum_for.ensures
