use borrow.Author.Rules.{rules}
use mathlib.Core.List.{map}
use Rattle.text_writer.specs.Wrote.{none_yet, room_for, then_left, none_left}
use Rattle.text_writer.specs.Parts.{form_apart}
use Rattle.region_lines.specs.Codes.{spell_code}
use Rattle.region_lines.proofs.forms.write_form.Goals as goal

pub write_text-fields_at-requires : goal.write_text-fields_at-requires
write_text-fields_at-requires c =
    room_for (then_left (none_yet _ (form_apart c.args.word.now (map spell_code c.args.fields.now))) c.write_byte-word_at.ensures) c.requires

pub write_codes-end-requires : goal.write_codes-end-requires
write_codes-end-requires c =
    (search rules, room_for (then_left (then_left (none_yet _ (form_apart c.args.word.now (map spell_code c.args.fields.now))) c.write_byte-word_at.ensures) c.write_text-fields_at.ensures) c.requires)

pub write_text-requires : goal.write_text-requires
write_text-requires c =
    room_for (then_left (then_left (then_left (none_yet _ (form_apart c.args.word.now (map spell_code c.args.fields.now))) c.write_byte-word_at.ensures) c.write_text-fields_at.ensures) c.write_codes-end.ensures) c.requires

pub returns : goal.returns
returns c =
    none_left (then_left (then_left (then_left (then_left (none_yet _ (form_apart c.args.word.now (map spell_code c.args.fields.now))) c.write_byte-word_at.ensures) c.write_text-fields_at.ensures) c.write_codes-end.ensures) c.write_text.ensures)
