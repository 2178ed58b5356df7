use Rattle.definitions.specs.Spelling.{spell_patient}
use Rattle.held_region.specs.Meaning.{patient_of, patient_in}
use Rattle.text_writer.specs.Wrote.{room_for, then_left}
use Rattle.text_writer.specs.Parts.{lines_yet}
use Rattle.region_lines.specs.Writable.{patient_fits_lem}
use Rattle.region_lines.proofs.Turns.{place_left, places_written}
use Rattle.region_lines.proofs.write_patients.Goals as goal

pub loop-s-init : goal.loop-s-init
loop-s-init c = lines_yet spell_patient _

pub write_patient-next-requires : goal.write_patient-next-requires
write_patient-next-requires c =
    (patient_fits_lem c.args.region c.requires.0 c.loop-s.s c.loop-s-test.true, room_for (place_left spell_patient (λ q. patient_of (patient_in c.args.region q)) _ c.loop-s.s c.loop-s.invariant c.loop-s-test.true) c.requires.1)

pub loop-s-preserved : goal.loop-s-preserved
loop-s-preserved c =
    then_left (place_left spell_patient (λ q. patient_of (patient_in c.args.region q)) _ c.loop-s.s c.loop-s.invariant c.loop-s-test.true) c.write_patient-next.ensures

pub returns : goal.returns
returns c =
    places_written spell_patient (λ q. patient_of (patient_in c.args.region q)) _ c.loop-s.s c.loop-s.invariant c.loop-s-test.false
