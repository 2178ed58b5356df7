use mathlib.Core.Path.{◌∙◌}
use native.Mathlib.Omega.{arith}
use Rattle.pair_calls.proofs.PairCalls.{price_short, price_long}
use Rattle.pair_calls.proofs.price_call.Goals as goal

pub returns-then-res-lt-PAIR : goal.returns-then-res-lt-PAIR
returns-then-res-lt-PAIR c =
    let a = c.args in
    price_short a.file.now a.plan.now a.res.now (omega (arith, c.if-res-lt-PAIR.true)) c.number_without_room.ensures

pub returns : goal.returns
returns c =
    let stored = c in
    let valued = stored in
    let a = valued.args in
    price_long a.file.now a.plan.now a.res.now (omega (arith, valued.if-res-lt-PAIR.false))
    (valued.price_values-values.ensures ∙ valued.price.ensures) stored.store_price.ensures
