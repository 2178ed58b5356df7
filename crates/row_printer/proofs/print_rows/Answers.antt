use mathlib.Core.Path.{sym, ap}
use mathlib.Core.List.{append-nil}
use Rattle.definitions.specs.Basics.{flatten}
use Rattle.partial_rows.specs.Padding.{unpadded}
use Rattle.text_writer.specs.Wrote.{none_yet, room_for, then_left, none_left}
use Rattle.row_printer.proofs.Rows.{counted_parts, row_left, rows_done}
use Rattle.row_printer.proofs.print_rows.Goals as goal

pub write_number-end-requires : goal.write_number-end-requires
write_number-end-requires c =
    room_for (none_yet {out = c.args.out.now} {at = c.args.at} _ (counted_parts c.args.v c.args.n c.args.list.now)) c.requires.room

pub write_text-next-requires : goal.write_text-next-requires
write_text-next-requires c =
    room_for (then_left (none_yet _ (counted_parts c.args.v c.args.n c.args.list.now)) c.write_number-end.ensures) c.requires.room

pub loop-i-init : goal.loop-i-init
unfolding flatten
loop-i-init c = none_yet _ (sym (append-nil _))

pub print_row-next-requires : goal.print_row-next-requires
print_row-next-requires c =
    let room = room_for (then_left (then_left (none_yet _ (counted_parts c.args.v c.args.n c.args.list.now)) c.write_number-end.ensures) c.write_text-next.ensures) c.requires.room in
    (c.requires.patients, rw (ap (unpadded c.args.v) c.row_at.ensures) (room_for (row_left c.args.v c.args.n _ c.loop-i.i c.loop-i.invariant c.loop-i-test.true) room))

pub loop-i-preserved : goal.loop-i-preserved
loop-i-preserved c =
    then_left (row_left _ _ _ c.loop-i.i c.loop-i.invariant c.loop-i-test.true) (rw (ap (unpadded _) c.row_at.ensures) at c.print_row-next.ensures)

pub returns : goal.returns
returns c =
    none_left (then_left (then_left (then_left (none_yet _ (counted_parts _ _ _)) c.write_number-end.ensures) c.write_text-next.ensures)
    (rows_done _ _ _ c.loop-i.i c.loop-i.invariant c.loop-i-test.false))
