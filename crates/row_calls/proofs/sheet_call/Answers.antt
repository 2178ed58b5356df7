use mathlib.Core.Path.{◌∙◌}
use native.Mathlib.Omega.{arith}
use lib.ListN.{length}
use Rattle.definitions.specs.Outcomes.{sheet_found, sheet_outcome}
use Rattle.definitions.specs.Questions.{entry_asks, asked_by_sheet}
use Rattle.byte_areas.specs.Room.{room_most}
use Rattle.clinic_sheet.specs.Sheets.{sheet_twelve}
use Rattle.row_calls.proofs.RowCalls.{values_room, values_called, sheet_call_lem}
use Rattle.row_calls.proofs.sheet_call.Goals as goal

pub slice_bounds-held-end : goal.slice_bounds-held-end
slice_bounds-held-end c =
    let a = c.args in
    omega (arith, c.cost_room-room.ensures, (room_most (length a.costs.now) (length a.res.now)).0)

pub store_rows-requires : goal.store_rows-requires
unfolding sheet_outcome
store_rows-requires c =
    let a = c.args in
    let room = c.cost_room-room in
    values_room a.file.now a.beds.now a.costs.now a.res.now room.result room.ensures
    (λ long. sheet_found a.file.now a.clinic (entry_asks (asked_by_sheet a.file.now a.clinic long))) (sheet_twelve a.file.now a.clinic)
    c.sheet-answer.ensures c.of-sheeted.ensures

pub returns : goal.returns
unfolding sheet_outcome
returns c =
    let a = c.args in
    let room = c.cost_room-room in
    values_called a.file.now a.beds.now a.costs.now a.res.now room.result room.ensures
    (λ long. sheet_found a.file.now a.clinic (entry_asks (asked_by_sheet a.file.now a.clinic long))) (sheet_twelve a.file.now a.clinic)
    c.sheet-answer.ensures c.of-sheeted.ensures _ c.store_rows.ensures
    ∙ sheet_call_lem a.file.now a.beds.now a.costs.now a.res.now a.clinic
