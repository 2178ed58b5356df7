use mathlib.Core.Path.{ap}
use Prim.Native.Nat.{◌-◌}
use Rattle.search.proofs.Steps.{rest_left}
use Rattle.search.proofs.walk.rest_of.Goals as goal

pub returns : goal.returns
returns c =
    record {
      left = λ others e. rest_left _ _ _ _ others e c.one.ensures c.minus-others.ensures;
      bound = ap (λ n. c.args.bound - n) c.least_cost.ensures.0;
    }
