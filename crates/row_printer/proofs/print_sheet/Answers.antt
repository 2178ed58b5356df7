use Rattle.row_list.specs.Rows.{rows_in}
use Rattle.text_writer.specs.Wrote.{none_yet, room_for, then_left, none_left}
use Rattle.row_printer.specs.Lines.{sheet_parts}
use Rattle.row_printer.proofs.print_sheet.Goals as goal

pub write_text-number-requires : goal.write_text-number-requires
write_text-number-requires c =
    let rows = rows_in c.args.v c.args.n c.args.list.now in
    room_for (none_yet {out = c.args.out.now} {at = c.args.at} _ (sheet_parts c.args.clinic rows)) c.requires.room

pub write_number-space-requires : goal.write_number-space-requires
write_number-space-requires c =
    let rows = rows_in c.args.v c.args.n c.args.list.now in
    room_for (then_left (none_yet _ (sheet_parts c.args.clinic rows)) c.write_text-number.ensures) c.requires.room

pub write_byte-count-requires : goal.write_byte-count-requires
write_byte-count-requires c =
    let rows = rows_in c.args.v c.args.n c.args.list.now in
    room_for (then_left (then_left (none_yet _ (sheet_parts c.args.clinic rows)) c.write_text-number.ensures) c.write_number-space.ensures) c.requires.room

pub print_rows-requires : goal.print_rows-requires
print_rows-requires c =
    let rows = rows_in c.args.v c.args.n c.args.list.now in
    let left = then_left (then_left (then_left (none_yet _ (sheet_parts c.args.clinic rows)) c.write_text-number.ensures) c.write_number-space.ensures) c.write_byte-count.ensures in
    record { patients = c.requires.patients; held = c.requires.held; room = room_for left c.requires.room }

pub returns : goal.returns
returns c =
    let left = then_left (then_left (then_left (none_yet _ (sheet_parts _ _)) c.write_text-number.ensures) c.write_number-space.ensures) c.write_byte-count.ensures in
    none_left (then_left left c.print_rows.ensures)
