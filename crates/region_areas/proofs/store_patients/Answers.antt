use borrow.Author.Rules.{rules}
use mathlib.Core.Path.{refl, ◌∙◌}
use Rattle.region_areas.specs.Laid.{parts_all, parts_next, parts_done, patient_part}
use Rattle.region_areas.proofs.store_patients.Goals as goal

pub loop-s-init : goal.loop-s-init
loop-s-init c = (refl, parts_all _ _ _ _)

pub loop-s-preserved : goal.loop-s-preserved
loop-s-preserved c =
    let stored = c in
    let inside = stored in
    let turn = inside in
    let region = turn.args.region in (
      search rules,
      parts_next 4 (patient_part region) region.v _ turn.loop-s.s inside.loop-s-test.true refl stored.store_patient.ensures ∙ turn.loop-s.invariant.1,
    )

pub returns : goal.returns
returns c = parts_done _ _ _ _ _ c.loop-s-test.false ∙ c.loop-s.invariant.1
