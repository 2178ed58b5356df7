use Rattle.text_writer.specs.Wrote.{none_yet, room_for, then_left, none_left}
use Rattle.row_printer.specs.Lines.{refusal_parts}
use Rattle.row_printer.proofs.print_refusal.Goals as goal

pub write_text-number-requires : goal.write_text-number-requires
write_text-number-requires c =
    room_for (none_yet {out = c.args.out.now} {at = c.args.at} _ (refusal_parts c.args.q)) c.requires

pub write_number-end-requires : goal.write_number-end-requires
write_number-end-requires c =
    room_for (then_left (none_yet _ (refusal_parts c.args.q)) c.write_text-number.ensures) c.requires

pub write_text-requires : goal.write_text-requires
write_text-requires c =
    room_for (then_left (then_left (none_yet _ (refusal_parts c.args.q)) c.write_text-number.ensures) c.write_number-end.ensures) c.requires

pub returns : goal.returns
returns c =
    none_left (then_left (then_left (then_left (none_yet _ (refusal_parts _)) c.write_text-number.ensures) c.write_number-end.ensures) c.write_text.ensures)
