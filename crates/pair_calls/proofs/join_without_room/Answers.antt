use Rattle.std.proofs.Common.{sym, ap, ◌∙◌}
use Rattle.answers.specs.Numbers.{refusal_number_lem}
use Rattle.answers.specs.Rooms.{or_twelve}
use Rattle.pair_calls.proofs.PairCalls.{first_number_lem, second_number_lem, refused_first}
use Rattle.pair_calls.proofs.join_without_room.Goals as goal

pub returns-in-Ok : goal.returns-in-Ok
returns-in-Ok c =
    let s = c.args in
    c.number_without_room.ensures ∙ ap or_twelve (sym (second_number_lem s.first.now s.second.now (sym c.in-Ok.ensures)))

pub returns-in-Err : goal.returns-in-Err
returns-in-Err c = let s = c.args in c.number.ensures ∙ refused_first s.first.now s.second.now c.in-Err.refusal c.in-Err.ensures
