use Rattle.text_writer.specs.Wrote.{none_yet, room_for, then_left, none_left}
use Rattle.region_lines.specs.Spelled.{body_parts}
use Rattle.region_lines.proofs.write_body.Goals as goal

pub write_form-patients-requires : goal.write_form-patients-requires
write_form-patients-requires c =
    room_for (none_yet {out = c.args.out.now} {at = 0} _ (body_parts c.args.region c.args.store.now c.requires.0.head)) c.requires.1

pub write_patients-tables-requires : goal.write_patients-tables-requires
write_patients-tables-requires c =
    (c.requires.0.patients, room_for (then_left (none_yet _ (body_parts c.args.region c.args.store.now c.requires.0.head)) c.write_form-patients.ensures) c.requires.1)

pub write_tables-requires : goal.write_tables-requires
write_tables-requires c =
    (c.requires.0, room_for (then_left (then_left (none_yet _ (body_parts c.args.region c.args.store.now c.requires.0.head)) c.write_form-patients.ensures) c.write_patients-tables.ensures) c.requires.1)

pub returns : goal.returns
returns c =
    none_left (then_left (then_left (then_left (none_yet _ (body_parts c.args.region c.args.store.now c.requires.0.head)) c.write_form-patients.ensures) c.write_patients-tables.ensures) c.write_tables.ensures)
