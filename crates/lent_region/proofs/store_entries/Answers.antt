use borrow.Author.Rules.{rules}
use mathlib.Core.Path.{ap, ◌∙◌}
use native.Mathlib.Omega.{arith}
use Rattle.lists.specs.Filling.{filled_none, filled_more, filled_all}
use Rattle.held_region.specs.Meaning.{code_of}
use Rattle.lent_region.proofs.store_entries.Goals as goal

pub loop-k-init : goal.loop-k-init
loop-k-init c = (search rules, filled_none)

pub loop-k-preserved : goal.loop-k-preserved
loop-k-preserved c =
    let turn = c in
    (search rules, filled_more c.code_of.result turn.loop-k.invariant.1 (omega arith) (c.code_of.ensures ∙ ap code_of turn.optional_at.ensures))

pub returns : goal.returns
returns c = filled_all _ c.loop-k.invariant.1 (omega arith)
