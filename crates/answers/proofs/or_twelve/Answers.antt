use mathlib.Core.Path.{sym, ap}
use Rattle.answers.specs.Rooms.{or_twelve, some_number}
use Rattle.answers.proofs.or_twelve.Goals as goal

pub returns-then-number-eq0 : goal.returns-then-number-eq0
returns-then-number-eq0 c = ap or_twelve (sym c.if-number-eq0.true)

pub returns-else-number-eq0 : goal.returns-else-number-eq0
returns-else-number-eq0 c = some_number _ c.if-number-eq0.false
