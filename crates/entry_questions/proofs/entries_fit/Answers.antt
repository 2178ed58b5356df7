use Rattle.std.proofs.Common.{rules, tests, take, arith, ◌∙◌}
use Rattle.std.proofs.lemmas.Iterator.{YieldsList-from_slice}
use Rattle.std.proofs.lemmas.Iterator.Search.{all_from_yields_List}
use Rattle.held_region.specs.Entries.{code_fits}
use Rattle.entry_questions.specs.Passing.{all_places}
use Rattle.entry_questions.proofs.entries_fit.Goals as goal

pub returns : goal.returns
returns c =
    let entries = c.args.entries.now in
    all_from_yields_List code_fits _ _ _ c.all.ensures.ran (YieldsList-from_slice (take c.args.total entries) cc) (λ x b q k. search (rules, tests))
    ∙ all_places code_fits 0 entries c.args.total (omega arith)
