use Rattle.std.proofs.Common.{rules, tests, refl, arith, ◌∙◌, sym}
use Rattle.std.proofs.lemmas.Iterator.{YieldsList-from_range}
use Rattle.std.proofs.lemmas.Iterator.Search.{all_from_yields_List}
use Rattle.held_region.specs.Meaning.{patient_of, patient_in}
use Rattle.held_region.specs.Asked.{patient_fits, patients_asked}
use Rattle.entry_questions.specs.Passing.{all_below}
use Rattle.questions.proofs.fields.patients_fit.Goals as goal

pub returns : goal.returns
returns c =
    let region = c.args.region in
    λ store. all_from_yields_List (λ s. patient_fits (patient_of (patient_in region s))) _ _ _ c.all.ensures.ran (YieldsList-from_range 0 region.v region.v refl (omega arith)) (λ x b q k. search (rules, tests))
    ∙ all_below (λ s. patient_fits (patient_of (patient_in region s))) region.v ∙ sym (patients_asked region store)
