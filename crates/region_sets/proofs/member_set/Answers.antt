use mathlib.Core.Bool.{or_assoc, or-false}
use mathlib.Core.Path.{sym, ap, ◌∙◌}
use Prim.Native.Nat.{◌+◌}
use Rattle.std.specs.Prelude.{◌||◌}
use Rattle.definitions.specs.Basics.{contains}
use Rattle.patient_set.specs.Sets.{in_set}
use Rattle.held_region.specs.Members.{members_from, members_all, members_next, members_done}
use Rattle.held_region.specs.Meaning.{members_of}
use Rattle.held_region.specs.Related.{member_known}
use Rattle.held_region.specs.Sets.{in_none, set_members}
use Rattle.region_sets.proofs.member_set.Goals as goal

pub loop-place-init : goal.loop-place-init
loop-place-init c = λ q. ap (λ b. b || contains (members_from c.args.table 0) q) (in_none q) ∙ ap (λ l. contains l q) (members_all c.args.table)

pub add-set-requires : goal.add-set-requires
add-set-requires c = member_known c.args.table c.requires _ c.loop-place-test.true

pub loop-place-preserved : goal.loop-place-preserved
loop-place-preserved c =
    let table = c.args.table in
    let i = c.loop-place.place in
    λ q.
    ap (λ b. b || contains (members_from table (i + 1)) q) (c.add-set.ensures q) ∙ or_assoc (in_set c.loop-place.set.0 q) _ _
    ∙ sym (ap (λ l. in_set c.loop-place.set.0 q || contains l q) (members_next table i c.loop-place-test.true)) ∙ c.loop-place.invariant q

pub returns : goal.returns
returns c =
    let table = c.args.table in
    set_members _ (members_of table) c.requires.rising c.requires.known
    (λ q. sym (or-false _) ∙ ap (λ l. in_set c.loop-place.set.0 q || contains l q) (sym (members_done table _ c.loop-place-test.false)) ∙ c.loop-place.invariant q)
