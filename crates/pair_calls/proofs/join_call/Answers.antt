use native.Mathlib.Omega.{arith}
use Rattle.pair_calls.proofs.PairCalls.{join_short, join_long}
use Rattle.pair_calls.proofs.join_call.Goals as goal

pub returns-then-res-lt-PAIR : goal.returns-then-res-lt-PAIR
returns-then-res-lt-PAIR c =
    let a = c.args in
    join_short a.first.now a.second.now a.output.now a.res.now (omega (arith, c.if-res-lt-PAIR.true)) c.join_without_room.ensures

pub returns : goal.returns
returns c =
    let stored = c in
    let valued = stored in
    let joined = valued in
    let long = joined in
    let a = long.args in
    let values = valued.join_values-joined.ensures in
    join_long a.first.now a.second.now a.output.now a.res.now (omega (arith, long.if-res-lt-PAIR.false))
    joined.join.ensures values.0 values.2 values.1 stored.store_result.ensures
