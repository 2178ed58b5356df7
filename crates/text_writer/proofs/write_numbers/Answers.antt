use Rattle.std.proofs.Common.{map}
use Rattle.definitions.specs.Spelling.{decimal}
use Rattle.text_writer.specs.Wrote.{none_yet, room_for, then_left, none_left}
use Rattle.text_writer.specs.Parts.{bracketed_apart, from_zero, parts_yet, part_left, parts_done}
use Rattle.text_writer.proofs.write_numbers.Goals as goal

pub loop-i-init : goal.loop-i-init
loop-i-init c = parts_yet decimal from_zero _

pub write_gap-next-requires : goal.write_gap-next-requires
write_gap-next-requires c =
    let l = c.loop-i in
    let room = room_for (then_left (none_yet _ (bracketed_apart (map decimal c.args.numbers.now))) c.write_byte-next.ensures) c.requires in
    room_for (part_left decimal from_zero _ l.i l.invariant 0 c.loop-i-test.true) room

pub write_number-next-requires : goal.write_number-next-requires
write_number-next-requires c =
    let l = c.loop-i in
    let room = room_for (then_left (none_yet _ (bracketed_apart (map decimal c.args.numbers.now))) c.write_byte-next.ensures) c.requires in
    rw c.from.ensures (room_for (then_left (part_left decimal from_zero _ l.i l.invariant 0 c.loop-i-test.true) c.write_gap-next.ensures) room)

pub loop-i-preserved : goal.loop-i-preserved
loop-i-preserved c =
    let l = c.loop-i in
    then_left (then_left (part_left decimal from_zero _ l.i l.invariant 0 c.loop-i-test.true) c.write_gap-next.ensures) (rw c.from.ensures at c.write_number-next.ensures)

pub write_byte-requires : goal.write_byte-requires
write_byte-requires c =
    let inner = parts_done decimal from_zero _ c.loop-i.i c.loop-i.invariant c.loop-i-test.false in
    room_for (then_left (then_left (none_yet _ (bracketed_apart (map decimal c.args.numbers.now))) c.write_byte-next.ensures) inner) c.requires

pub returns : goal.returns
returns c =
    let inner = parts_done decimal from_zero _ c.loop-i.i c.loop-i.invariant c.loop-i-test.false in
    none_left (then_left (then_left (then_left (none_yet _ (bracketed_apart (map decimal c.args.numbers.now))) c.write_byte-next.ensures) inner) c.write_byte.ensures)
