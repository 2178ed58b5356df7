use borrow.Author.Rules.{rules}
use mathlib.Core.Path.{sym, ap, ◌∙◌}
use Rattle.definitions.specs.Basics.{contains}
use Rattle.patient_set.specs.Sets.{members}
use Rattle.patient_set.specs.Laws.{member}
use Rattle.held_region.specs.Related.{member_known}
use Rattle.buckets.proofs.Held.{first_lowest}
use Rattle.buckets.proofs.counts_for.Goals as goal

pub has-requires : goal.has-requires
has-requires c = member_known _ c.requires.0 0 c.requires.1

pub returns : goal.returns
returns c =
    let pre = c.requires in
    c.has.ensures ∙ sym (member _ _ (search rules)) ∙ ap (contains (members _)) (sym (first_lowest _ pre.0 pre.1))
