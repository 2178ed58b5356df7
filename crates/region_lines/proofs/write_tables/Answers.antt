use native.Mathlib.Omega.{arith}
use mathlib.Core.Path.{refl, ap}
use native.Mathlib.Numerals.{add-one}
use Rattle.definitions.specs.Spelling.{spell_table}
use Rattle.held_region.specs.Meaning.{start_in, table_said}
use Rattle.text_writer.specs.Wrote.{room_for, then_left}
use Rattle.text_writer.specs.Parts.{lines_yet}
use Rattle.region_lines.proofs.Turns.{place_left, places_written}
use Rattle.region_lines.proofs.write_tables.Goals as goal

pub loop-i-init : goal.loop-i-init
loop-i-init c = (refl, lines_yet spell_table _)

pub write_table-next-requires : goal.write_table-next-requires
write_table-next-requires c =
    rw c.loop-i.invariant.0 (c.requires.0.tables c.loop-i.i c.loop-i-test.true, room_for (place_left spell_table (table_said c.args.region c.args.store.now) c.args.region.t c.loop-i.i c.loop-i.invariant.1 c.loop-i-test.true) c.requires.1)

pub overflow_add-start : goal.overflow_add-start
overflow_add-start c =
    omega (arith, c.loop-i.invariant.0, (c.requires.0.tables c.loop-i.i c.loop-i-test.true).inside)

pub loop-i-preserved : goal.loop-i-preserved
loop-i-preserved c =
    (omega (arith, c.loop-i.invariant.0, ap (start_in c.args.region) (add-one c.loop-i.i)), then_left (place_left spell_table (table_said c.args.region c.args.store.now) c.args.region.t c.loop-i.i c.loop-i.invariant.1 c.loop-i-test.true) (rw c.loop-i.invariant.0 at c.write_table-next.ensures))

pub returns : goal.returns
returns c =
    places_written spell_table (table_said c.args.region c.args.store.now) c.args.region.t c.loop-i.i c.loop-i.invariant.1 c.loop-i-test.false
