use Rattle.std.proofs.Common.{rules, tests, refl, arith, ◌∙◌, sym}
use Rattle.std.proofs.lemmas.Iterator.{YieldsList-from_range}
use Rattle.std.proofs.lemmas.Iterator.Search.{all_from_yields_List}
use Rattle.joined_region.specs.Joined.{other_clinic, lacks_asked}
use Rattle.entry_questions.specs.Passing.{all_below}
use Rattle.joined_region.proofs.lacks_clinic.Goals as goal

pub returns : goal.returns
returns c =
    λ store. all_from_yields_List (other_clinic c.args.region c.args.clinic) _ _ _ c.all.ensures.ran (YieldsList-from_range 0 c.args.region.v c.args.region.v refl (omega arith)) (λ x b q k. search (rules, tests))
    ∙ all_below (other_clinic c.args.region c.args.clinic) c.args.region.v ∙ sym (lacks_asked _ store _)
