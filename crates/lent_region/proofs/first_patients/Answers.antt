use borrow.Author.Rules.{rules}
use native.Mathlib.Omega.{arith}
use Rattle.lists.specs.Filling.{filled_none, filled_more, filled_all}
use Rattle.lent_region.proofs.first_patients.Goals as goal

pub loop-s-init : goal.loop-s-init
loop-s-init c = (search rules, filled_none)

pub loop-s-preserved : goal.loop-s-preserved
loop-s-preserved c =
    let turn = c in
    (search rules, filled_more c.patient_at.result turn.loop-s.invariant.1 (omega arith) c.patient_at.ensures)

pub returns : goal.returns
returns c = filled_all _ c.loop-s.invariant.1 (omega arith)
