use Rattle.std.proofs.Common.{rules, tests, refl, arith, not, ◌∙◌, sym}
use Rattle.std.proofs.lemmas.Iterator.{YieldsList-from_range}
use Rattle.std.proofs.lemmas.Iterator.Search.{all_from_yields_List}
use Rattle.definitions.specs.Questions.{clinic_present}
use Rattle.held_region.specs.Meaning.{patient_in, said}
use Rattle.joined_region.specs.Joined.{apart_asked}
use Rattle.entry_questions.specs.Passing.{all_below}
use Rattle.joined_region.proofs.clinics_apart.Goals as goal

pub returns : goal.returns
returns c =
    λ store other. all_from_yields_List (λ q. not (clinic_present (said c.args.second other) (patient_in c.args.first q).clinic)) _ _ _ c.all.ensures.ran (YieldsList-from_range 0 c.args.first.v c.args.first.v refl (omega arith)) (λ x b q k. search (rules, tests))
    ∙ all_below (λ q. not (clinic_present (said c.args.second other) (patient_in c.args.first q).clinic)) c.args.first.v ∙ sym (apart_asked _ _ store other)
