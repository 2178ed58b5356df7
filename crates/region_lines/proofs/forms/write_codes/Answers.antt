use Rattle.text_writer.specs.Wrote.{room_for, then_left}
use Rattle.text_writer.specs.Parts.{from_part, parts_yet, part_left, parts_done}
use Rattle.region_lines.specs.Codes.{spell_code}
use Rattle.region_lines.proofs.forms.write_codes.Goals as goal

pub loop-i-init : goal.loop-i-init
loop-i-init c = parts_yet spell_code (from_part _) _

pub write_gap-next-requires : goal.write_gap-next-requires
write_gap-next-requires c =
    room_for (part_left spell_code (from_part _) _ c.loop-i.i c.loop-i.invariant 0 c.loop-i-test.true) c.requires.1

pub write_code-next-requires : goal.write_code-next-requires
write_code-next-requires c =
    room_for (then_left (part_left spell_code (from_part _) _ c.loop-i.i c.loop-i.invariant 0 c.loop-i-test.true) c.write_gap-next.ensures) c.requires.1

pub loop-i-preserved : goal.loop-i-preserved
loop-i-preserved c =
    then_left (then_left (part_left spell_code (from_part _) _ c.loop-i.i c.loop-i.invariant 0 c.loop-i-test.true) c.write_gap-next.ensures) c.write_code-next.ensures

pub returns : goal.returns
returns c = parts_done spell_code (from_part _) _ c.loop-i.i c.loop-i.invariant c.loop-i-test.false
