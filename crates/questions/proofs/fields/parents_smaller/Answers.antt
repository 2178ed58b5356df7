use Rattle.std.proofs.Common.{rules, tests, refl, arith, ◌∙◌, sym}
use Rattle.std.proofs.lemmas.Iterator.{YieldsList-from_range}
use Rattle.std.proofs.lemmas.Iterator.Search.{all_from_yields_List}
use Rattle.held_region.specs.Meaning.{optional, patient_in}
use Rattle.held_region.specs.Asked.{none_or_below, parents_asked}
use Rattle.entry_questions.specs.Passing.{all_below}
use Rattle.questions.proofs.fields.parents_smaller.Goals as goal

pub returns : goal.returns
returns c =
    let region = c.args.region in
    λ store. all_from_yields_List (λ s. none_or_below (optional (patient_in region s).parent) s) _ _ _ c.all.ensures.ran (YieldsList-from_range 0 region.v region.v refl (omega arith)) (λ x b q k. search (rules, tests))
    ∙ all_below (λ s. none_or_below (optional (patient_in region s).parent) s) region.v ∙ sym (parents_asked region store)
