use mathlib.Core.Path.{◌∙◌}
use Rattle.lists.specs.Loops.{ask_all, ask_yes, ask_no, ask_done}
use Rattle.held_region.specs.Related.{related_asked, members_known, table_related}
use Rattle.region_sets.proofs.members_related.Goals as goal

pub loop-i-init : goal.loop-i-init
loop-i-init c = λ store. ask_all _ _ (related_asked _ store)

pub member_set-requires : goal.member_set-requires
member_set-requires c = members_known c.args.region c.requires.0 _ c.loop-i-test.true

pub returns-then-not-all_chained : goal.returns-then-not-all_chained
returns-then-not-all_chained c =
    λ store. ask_no _ _ _ c.loop-i-test.true
    (table_related c.args.region c.requires.0 _ c.loop-i-test.true c.ancestor_sets-ancestors.result _ c.requires.1
    c.ancestor_sets-ancestors.ensures c.member_set.ensures c.all_chained.ensures store
    ∙ c.if-not-all_chained.true)
    (c.loop-i.invariant store)

pub loop-i-preserved : goal.loop-i-preserved
loop-i-preserved c =
    λ store. ask_yes _ _ _ c.loop-i-test.true
    (table_related c.args.region c.requires.0 _ c.loop-i-test.true c.ancestor_sets-ancestors.result _ c.requires.1
    c.ancestor_sets-ancestors.ensures c.member_set.ensures c.all_chained.ensures store
    ∙ c.if-not-all_chained.false)
    (c.loop-i.invariant store)

pub returns : goal.returns
returns c = λ store. ask_done _ _ _ c.loop-i-test.false (c.loop-i.invariant store)
