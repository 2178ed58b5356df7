use Rattle.std.proofs.Common.{◌∙◌, arith}
use Rattle.pair_calls.proofs.PairCalls.{line_short, line_long, refused_numbers}
use Rattle.pair_calls.proofs.line_call.Goals as goal

pub returns-then-res-lt-PAIR : goal.returns-then-res-lt-PAIR
returns-then-res-lt-PAIR c =
    let a = c.args in
    line_short a.file.now a.typed.now a.res.now (omega (arith, c.if-res-lt-PAIR.true)) c.number_without_room.ensures

pub returns-in-Ok : goal.returns-in-Ok
returns-in-Ok c =
    let a = c.args in
    line_long a.file.now a.typed.now a.res.now (omega (arith, c.if-res-lt-PAIR.false)) c.in-Ok.ensures c.store_result.ensures

pub returns-in-Err : goal.returns-in-Err
returns-in-Err c =
    let a = c.args in
    rw c.number.ensures
    (line_long a.file.now a.typed.now a.res.now (omega (arith, c.if-res-lt-PAIR.false)) c.in-Err.ensures
    (c.store_result-in-Err.ensures ∙ refused_numbers c.in-Err.error _ a.res.now))
