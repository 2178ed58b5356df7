use Rattle.std.proofs.Common.{rules, tests, refl, arith, ◌∙◌, sym}
use Rattle.std.proofs.lemmas.Iterator.{YieldsList-from_range}
use Rattle.std.proofs.lemmas.Iterator.Search.{all_from_yields_List}
use Rattle.held_region.specs.Meaning.{table_in, members_of}
use Rattle.held_region.specs.Members.{members_fit, members_asked}
use Rattle.entry_questions.specs.Passing.{all_below}
use Rattle.questions.proofs.fields.members_right.Goals as goal

pub returns : goal.returns
returns c =
    let region = c.args.region in
    λ store. all_from_yields_List (λ i. members_fit region.v (members_of (table_in region i))) _ _ _ c.all.ensures.ran (YieldsList-from_range 0 region.t region.t refl (omega arith)) (λ x b q k. search (rules, tests))
    ∙ all_below (λ i. members_fit region.v (members_of (table_in region i))) region.t ∙ sym (members_asked region store)
