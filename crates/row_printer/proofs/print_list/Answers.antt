use Rattle.row_list.specs.Rows.{rows_in}
use Rattle.text_writer.specs.Wrote.{none_yet, room_for, then_left, none_left}
use Rattle.row_printer.specs.Lines.{list_parts}
use Rattle.row_printer.proofs.print_list.Goals as goal

pub write_text-count-requires : goal.write_text-count-requires
write_text-count-requires c =
    let rows = rows_in c.args.v c.args.n c.args.list.now in
    room_for (none_yet {out = c.args.out.now} {at = c.args.at} _ (list_parts rows)) c.requires.room

pub print_rows-requires : goal.print_rows-requires
print_rows-requires c =
    let rows = rows_in c.args.v c.args.n c.args.list.now in
    record { patients = c.requires.patients; held = c.requires.held; room = room_for (then_left (none_yet _ (list_parts rows)) c.write_text-count.ensures) c.requires.room }

pub returns : goal.returns
returns c =
    none_left (then_left (then_left (none_yet _ (list_parts _)) c.write_text-count.ensures) c.print_rows.ensures)
