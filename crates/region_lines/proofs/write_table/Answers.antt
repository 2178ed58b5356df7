use Rattle.text_writer.specs.Wrote.{none_yet, room_for, then_left, none_left}
use Rattle.std.proofs.Common.{rules}
use Rattle.region_lines.proofs.Turns.{written_parts}
use Rattle.region_lines.proofs.write_table.Goals as goal

pub write_text-members-requires : goal.write_text-members-requires
write_text-members-requires c =
    room_for (none_yet {out = c.args.out.now} {at = c.args.at} _ (written_parts c.args.store.now c.args.start c.args.table (search rules) (search rules) c.requires.0)) c.requires.1

pub write_codes-between-requires : goal.write_codes-between-requires
write_codes-between-requires c =
    (search rules, room_for (then_left (none_yet _ (written_parts c.args.store.now c.args.start c.args.table (search rules) (search rules) c.requires.0)) c.write_text-members.ensures) c.requires.1)

pub write_text-entries-requires : goal.write_text-entries-requires
write_text-entries-requires c =
    room_for (then_left (then_left (none_yet _ (written_parts c.args.store.now c.args.start c.args.table (search rules) (search rules) c.requires.0)) c.write_text-members.ensures) c.write_codes-between.ensures) c.requires.1

pub write_codes-end-requires : goal.write_codes-end-requires
write_codes-end-requires c =
    (search rules, room_for (then_left (then_left (then_left (none_yet _ (written_parts c.args.store.now c.args.start c.args.table (search rules) (search rules) c.requires.0)) c.write_text-members.ensures) c.write_codes-between.ensures) c.write_text-entries.ensures) c.requires.1)

pub write_text-requires : goal.write_text-requires
write_text-requires c =
    room_for (then_left (then_left (then_left (then_left (none_yet _ (written_parts c.args.store.now c.args.start c.args.table (search rules) (search rules) c.requires.0)) c.write_text-members.ensures) c.write_codes-between.ensures) c.write_text-entries.ensures) c.write_codes-end.ensures) c.requires.1

pub returns : goal.returns
returns c =
    none_left (then_left (then_left (then_left (then_left (then_left (none_yet _ (written_parts c.args.store.now c.args.start c.args.table (search rules) (search rules) c.requires.0)) c.write_text-members.ensures) c.write_codes-between.ensures) c.write_text-entries.ensures) c.write_codes-end.ensures) c.write_text.ensures)
