use Rattle.held_region.specs.Sound.{accepted_sound}
use Rattle.row_sums.specs.Sums.{work_part}
use Rattle.printer.proofs.Clinics.{clinic_absent, asks_sheet, printable, clinic_printed}
use Rattle.printer.proofs.print_clinic.Goals as goal

pub clinic_patients-set-requires : goal.clinic_patients-set-requires
clinic_patients-set-requires c = accepted_sound _ _ c.requires.listed.accepted

pub returns-then-is_empty : goal.returns-then-is_empty
returns-then-is_empty c =
    let a = c.args in
    clinic_absent _ _ a.out.now a.work.now c.requires c.clinic_patients-set.result.0 (c.clinic_patients-set.ensures _) c.is_empty.ensures c.if-is_empty.true

pub sheet_rows-rows-requires : goal.sheet_rows-rows-requires
sheet_rows-rows-requires c =
    let a = c.args in
    asks_sheet _ _ a.out.now a.work.now c.requires c.clinic_patients-set.result.0 (c.clinic_patients-set.ensures _) c.is_empty.ensures

pub print_sheet-requires : goal.print_sheet-requires
unfolding work_part
print_sheet-requires c =
    let a = c.args in
    printable _ _ a.out.now a.work.now c.requires c.clinic_patients-set.result.0 (c.clinic_patients-set.ensures _) c.is_empty.ensures c.if-is_empty.false c.sheet_rows-rows.ensures c.size-k.ensures

pub returns : goal.returns
unfolding work_part
returns c =
    let a = c.args in
    clinic_printed _ _ a.out.now a.work.now c.requires c.clinic_patients-set.result.0 (c.clinic_patients-set.ensures _) c.is_empty.ensures c.if-is_empty.false c.sheet_rows-rows.ensures c.size-k.ensures c.print_sheet.ensures
