use mathlib.Core.Path.{ap, ◌∙◌}
use Rattle.writer.specs.Calls.{given_values}
use Rattle.parent_maker.specs.Outcomes.{call_short, call_long_lem}
use Rattle.parent_maker.proofs.parents_call.Goals as goal

pub returns-then-res-lt8 : goal.returns-then-res-lt8
returns-then-res-lt8 c =
    let s = c in
    ap (λ n. record { number = n; output = s.args.output.now; result = s.args.res.now }) c.number_without_room.ensures
    ∙ call_short s.args.file.now s.args.output.now s.args.res.now c.if-res-lt8.true

pub returns : goal.returns
returns c =
    let stored = c in
    let valued = stored in
    let made = valued in
    let long = made in
    let s = long in
    call_long_lem s.args.file.now s.args.output.now s.args.res.now long.if-res-lt8.false
    (given_values _ valued.of-written.ensures.0 valued.of-written.ensures.1 ∙ made.parents.ensures) stored.store_result.ensures
