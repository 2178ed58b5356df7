use native.Mathlib.Omega.{arith}
use mathlib.Core.Path.{sym, ap, ◌∙◌}
use Rattle.line_reader.specs.Answers.{patient_read}
use Rattle.held_region.specs.FirstHeld.{set_full}
use Rattle.layout.proofs.HeldLines.{patients_none, patients_more}
use Rattle.layout.proofs.patients.read_patients.Goals as goal

pub loop-i-init : goal.loop-i-init
loop-i-init c = rw c.blank.ensures (patients_none c.args.file.now c.args.at)

pub loop-i-preserved : goal.loop-i-preserved
loop-i-preserved c =
    let l = c.loop-i in
    let q = c.in-Some.patient in
    patients_more q l.invariant c.line_end-end.ensures c.loop-i-test.true (sym (ap patient_read c.in-Some.is) ∙ c.patient_line.ensures)
    (elim c.if-count-lt32.branch [ goal.then-count-lt32 w ↦ w.first-is | goal.else-count-lt32 w ↦ w.first-is ∙ set_full l.first l.count q (omega (arith, w.if-count-lt32.false, l.invariant.wide)) ])
