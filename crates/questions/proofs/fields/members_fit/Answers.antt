use mathlib.Core.Path.{sym, ◌∙◌}
use Rattle.definitions.specs.Limits.{limits, member_count}
use Rattle.theorems.specs.Accepted.{at_most}
use Rattle.held_region.specs.Members.{fit, unfit}
use Rattle.questions.proofs.fields.members_fit.Goals as goal

pub members_rise-requires : goal.members_rise-requires
unfolding limits
members_rise-requires c = at_most member_count _ (sym c.within.ensures ∙ c.if-within.true)

pub returns-then-within : goal.returns-then-within
returns-then-within c =
    fit c.args.v c.args.table (sym c.within.ensures ∙ c.if-within.true) c.members_rise.ensures

pub returns-else-within : goal.returns-else-within
returns-else-within c = c.if-within.false ∙ unfit c.args.v c.args.table (sym c.within.ensures ∙ c.if-within.false)
