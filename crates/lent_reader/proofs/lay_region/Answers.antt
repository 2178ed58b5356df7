use native.Mathlib.Omega.{arith}
use Rattle.lent_reader.specs.Called.{counts_held, total_few, patients_few, tables_few, room_no, room_yes, each_fits, no_room, all_laid}
use mathlib.Core.Path.{ap}
use mathlib.Core.Bool.{not}
use Rattle.lent_reader.proofs.lay_region.Goals as goal

pub entry_total-total-requires : goal.entry_total-total-requires
entry_total-total-requires c =
    let s = c in
    counts_held s.args.region s.args.store.now s.requires

pub has_room-requires : goal.has_room-requires
has_room-requires c =
    let s = c in
    let a = s.args in
    (patients_few a.region a.store.now s.requires, tables_few a.region a.store.now s.requires, omega (arith, c.entry_total-total.ensures, total_few a.region a.store.now s.requires))

pub returns-then-not-has_room : goal.returns-then-not-has_room
returns-then-not-has_room c =
    let left = c in
    let asked = left in
    let total = asked in
    let s = total in
    let a = s.args in
    let short = room_no a.region a.store.now s.requires a.patients.now a.tables.now a.entries.now a.res.now total.entry_total-total.ensures asked.has_room.ensures (ap not left.if-not-has_room.true) in
    no_room a.region a.store.now s.requires a.patients.now a.tables.now a.entries.now a.res.now short left.refused.ensures.0 left.refused.ensures.1

pub store_patients-requires : goal.store_patients-requires
store_patients-requires c =
    let enough = c in
    let asked = enough in
    let total = asked in
    let s = total in
    let a = s.args in
    (each_fits a.region a.store.now s.requires a.patients.now a.tables.now a.entries.now a.res.now total.entry_total-total.ensures asked.has_room.ensures (ap not enough.if-not-has_room.false)).0

pub store_tables-requires : goal.store_tables-requires
store_tables-requires c =
    let enough = c in
    let asked = enough in
    let total = asked in
    let s = total in
    let a = s.args in
    (each_fits a.region a.store.now s.requires a.patients.now a.tables.now a.entries.now a.res.now total.entry_total-total.ensures asked.has_room.ensures (ap not enough.if-not-has_room.false)).1

pub store_entries-requires : goal.store_entries-requires
store_entries-requires c =
    let enough = c in
    let asked = enough in
    let total = asked in
    let s = total in
    let a = s.args in
    (each_fits a.region a.store.now s.requires a.patients.now a.tables.now a.entries.now a.res.now total.entry_total-total.ensures asked.has_room.ensures (ap not enough.if-not-has_room.false)).2

pub returns : goal.returns
returns c =
    let counted = c in
    let third = counted in
    let second = third in
    let first = second in
    let enough = first in
    let asked = enough in
    let total = asked in
    let s = total in
    let a = s.args in
    let room = room_yes a.region a.store.now s.requires a.patients.now a.tables.now a.entries.now a.res.now total.entry_total-total.ensures asked.has_room.ensures (ap not enough.if-not-has_room.false) in
    all_laid a.region a.store.now s.requires a.patients.now a.tables.now a.entries.now a.res.now room first.store_patients.ensures second.store_tables.ensures third.store_entries.ensures total.entry_total-total.ensures counted.store_result.ensures
