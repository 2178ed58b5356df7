use native.Mathlib.Omega.{arith}
use Rattle.definitions.specs.Limits.{limits}
use Rattle.printer.proofs.Sheets.{none_printed, asks_clinic, clinic_more, all_printed}
use Rattle.printer.proofs.print_sheets.Goals as goal

pub overflow_add-clinics : goal.overflow_add-clinics
unfolding limits
overflow_add-clinics c = omega (arith, c.highest.ensures)

pub loop-clinic-init : goal.loop-clinic-init
loop-clinic-init c = none_printed _ _ _ _

pub print_clinic-next-requires : goal.print_clinic-next-requires
print_clinic-next-requires c =
    let l = c.loop-clinic in
    asks_clinic _ _ c.args.out.now c.args.work.now l.clinic l.invariant c.requires
    (omega (arith, c.highest.ensures, c.loop-clinic-test.true))

pub loop-clinic-preserved : goal.loop-clinic-preserved
loop-clinic-preserved c =
    let l = c.loop-clinic in
    clinic_more _ _ _ _ l.clinic l.invariant (omega (arith, c.highest.ensures, c.loop-clinic-test.true)) c.print_clinic-next.ensures

pub shape_of-out : goal.shape_of-out
shape_of-out c =
    c.loop-clinic.invariant.left.long

pub returns : goal.returns
returns c =
    let l = c.loop-clinic in
    all_printed _ _ _ _ l.clinic l.invariant (omega (arith, c.highest.ensures, c.loop-clinic-test.false))
