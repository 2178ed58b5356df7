use Rattle.std.proofs.Common.{rules, tests, refl, ◌∙◌}
use Rattle.std.proofs.lemmas.Iterator.{YieldsList-from_range}
use Rattle.std.proofs.lemmas.Iterator.Search.{all_from_yields_List}
use Rattle.packed_rows.proofs.Equal.{same_at, all_words}
use Rattle.packed_rows.proofs.same_beds.Goals as goal

pub returns : goal.returns
returns c =
    let a = c.args in
    all_from_yields_List (same_at a.x a.y) _ _ _ c.all.ensures.ran (YieldsList-from_range 0 4 4 refl refl) (λ j b q k. search (rules, tests)) ∙ all_words a.x a.y (search rules) (search rules)
