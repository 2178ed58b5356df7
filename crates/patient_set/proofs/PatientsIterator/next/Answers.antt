use Rattle.std.proofs.Common.{rules, arith, sym, ap, length, ◌∷◌, ◌<◌, ◌-◌, bit_and, ◌∙◌}
use Rattle.patient_set.specs.Sets.{members}
use Rattle.patient_set.proofs.Words.{some_there, without_lowest}
use Rattle.patient_set.proofs.PatientsIterator.next.Goals as goal

pub overflow_sub-self : goal.overflow_sub-self
overflow_sub-self c = (without_lowest _ (search rules) (some_there _ c.size.ensures c.if-size-eq0.false)).0

pub returns-clause-steps : goal.returns-clause-steps
returns-clause-steps c =
    (without_lowest _ (search rules) (some_there _ c.size.ensures c.if-size-eq0.false)).1 ∙ ap (λ p. p ∷ members (bit_and c.args.self.now.left.0 (c.args.self.now.left.0 - 1))) (sym c.lowest.ensures)

pub returns-clause-goes : goal.returns-clause-goes
returns-clause-goes c =
    let e = (without_lowest c.args.self.now.left.0 (search rules) (some_there _ c.size.ensures c.if-size-eq0.false)).1 in
    let fewer : length (members (bit_and c.args.self.now.left.0 (c.args.self.now.left.0 - 1))) < length (members c.args.self.now.left.0) = omega (arith, ap length e) in
    search rules
