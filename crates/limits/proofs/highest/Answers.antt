use mathlib.Core.Path.{ap}
use Rattle.limits.specs.declared.Limit.{Limit}
use Rattle.limits.proofs.highest.Goals as goal

pub returns : goal.returns
returns c = ap (λ (l : Limit). l.1) c.limit_of-limit.ensures
