use mathlib.Core.Path.{◌∙◌}
use native.Mathlib.Omega.{arith}
use lib.ListN.{length}
use Rattle.definitions.specs.Outcomes.{list_found, list_outcome}
use Rattle.definitions.specs.Questions.{entry_asks, asked_by_list}
use Rattle.byte_areas.specs.Room.{room_most}
use Rattle.region_answers.specs.Lists.{list_twelve}
use Rattle.row_calls.proofs.RowCalls.{values_room, values_called, list_call_lem}
use Rattle.row_calls.proofs.list_call.Goals as goal

pub slice_bounds-held-end : goal.slice_bounds-held-end
slice_bounds-held-end c =
    let a = c.args in
    omega (arith, c.cost_room-room.ensures, (room_most (length a.costs.now) (length a.res.now)).0)

pub store_rows-requires : goal.store_rows-requires
unfolding list_outcome
store_rows-requires c =
    let a = c.args in
    let room = c.cost_room-room in
    values_room a.file.now a.beds.now a.costs.now a.res.now room.result room.ensures
    (λ long. list_found a.file.now (entry_asks (asked_by_list a.file.now long))) (list_twelve a.file.now)
    c.list-answer.ensures c.of-listed.ensures

pub returns : goal.returns
unfolding list_outcome
returns c =
    let a = c.args in
    let room = c.cost_room-room in
    values_called a.file.now a.beds.now a.costs.now a.res.now room.result room.ensures
    (λ long. list_found a.file.now (entry_asks (asked_by_list a.file.now long))) (list_twelve a.file.now)
    c.list-answer.ensures c.of-listed.ensures _ c.store_rows.ensures
    ∙ list_call_lem a.file.now a.beds.now a.costs.now a.res.now
