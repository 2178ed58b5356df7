use borrow.Author.Rules.{rules}
use native.Mathlib.Omega.{arith}
use mathlib.Core.Path.{◌≡◌, sym}
use lib.ListN.{length}
use lib.Seq.{length-take-le}
use Rattle.text_writer.specs.Wrote.{none_yet, room_for, then_left, none_left}
use Rattle.row_printer.proofs.Rows.{unpadded_row_parts}
use Rattle.row_printer.proofs.print_row.Goals as goal

pub write_text-cost_at-requires : goal.write_text-cost_at-requires
write_text-cost_at-requires c =
    room_for (none_yet {out = c.args.out.now} {at = c.args.at} _ (unpadded_row_parts c.args.v c.args.row _ c.beds_of-beds.ensures)) c.requires.1

pub write_number-space-requires : goal.write_number-space-requires
write_number-space-requires c =
    room_for (then_left (none_yet _ (unpadded_row_parts c.args.v c.args.row _ c.beds_of-beds.ensures)) c.write_text-cost_at.ensures) c.requires.1

pub write_byte-beds_at-requires : goal.write_byte-beds_at-requires
write_byte-beds_at-requires c =
    room_for (then_left (then_left (none_yet _ (unpadded_row_parts c.args.v c.args.row _ c.beds_of-beds.ensures)) c.write_text-cost_at.ensures) c.write_number-space.ensures) c.requires.1

pub slice_bounds-write_numbers-end : goal.slice_bounds-write_numbers-end
slice_bounds-write_numbers-end c =
    let b : length c.beds_of-beds.result ≡ 32 = search rules in
    sym (length-take-le c.args.v c.beds_of-beds.result (omega arith))

pub write_numbers-end-requires : goal.write_numbers-end-requires
write_numbers-end-requires c =
    room_for (then_left (then_left (then_left (none_yet _ (unpadded_row_parts c.args.v c.args.row _ c.beds_of-beds.ensures)) c.write_text-cost_at.ensures) c.write_number-space.ensures) c.write_byte-beds_at.ensures) c.requires.1

pub write_text-requires : goal.write_text-requires
write_text-requires c =
    let left = then_left (then_left (then_left (none_yet _ (unpadded_row_parts c.args.v c.args.row _ c.beds_of-beds.ensures)) c.write_text-cost_at.ensures) c.write_number-space.ensures) c.write_byte-beds_at.ensures in
    room_for (then_left left c.write_numbers-end.ensures) c.requires.1

pub returns : goal.returns
returns c =
    let left = then_left (then_left (then_left (none_yet _ (unpadded_row_parts c.args.v c.args.row _ c.beds_of-beds.ensures)) c.write_text-cost_at.ensures) c.write_number-space.ensures) c.write_byte-beds_at.ensures in
    none_left (then_left (then_left left c.write_numbers-end.ensures) c.write_text.ensures)
