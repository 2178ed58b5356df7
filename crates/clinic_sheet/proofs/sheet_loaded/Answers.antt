use Rattle.held_region.specs.Sound.{accepted_sound}
use Rattle.held_region.specs.Counts.{counts_few}
use Rattle.region_answers.proofs.Areas.{asks_list}
use Rattle.clinic_sheet.proofs.Sheets.{sheeted_absent, sheeted_short, sheeted_nothing, asks_sheet, sheeted_rows_lem}
use Rattle.clinic_sheet.proofs.sheet_loaded.Goals as goal

pub clinic_patients-set-requires : goal.clinic_patients-set-requires
clinic_patients-set-requires c = accepted_sound _ _ c.requires

pub returns-then-is_empty : goal.returns-then-is_empty
returns-then-is_empty c =
    let a = c.args in
    sheeted_absent _ _ c.requires a.clinic c.clinic_patients-set.result.0 (c.clinic_patients-set.ensures _) a.beds.now a.costs.now a.work.now c.is_empty.ensures c.if-is_empty.true

pub long_enough-requires : goal.long_enough-requires
long_enough-requires c = counts_few _ _ c.requires

pub returns-then-not-long_enough : goal.returns-then-not-long_enough
returns-then-not-long_enough c =
    let a = c.args in
    sheeted_short _ _ c.requires a.clinic c.clinic_patients-set.result.0 (c.clinic_patients-set.ensures _) a.beds.now a.costs.now a.work.now c.is_empty.ensures c.if-is_empty.false c.long_enough.ensures (c.if-not-long_enough.true)

pub list_region-n-requires : goal.list_region-n-requires
list_region-n-requires c =
    let a = c.args in
    asks_list _ _ a.beds.now a.costs.now a.work.now c.long_enough.ensures (c.if-not-long_enough.false) c.requires

pub write_sheet-rows-requires : goal.write_sheet-rows-requires
write_sheet-rows-requires c =
    let a = c.args in
    asks_sheet _ _ c.requires a.clinic c.clinic_patients-set.result.0 (c.clinic_patients-set.ensures _) a.beds.now a.costs.now a.work.now c.is_empty.ensures c.if-is_empty.false c.long_enough.ensures (c.if-not-long_enough.false)
    c.list_region-n.ensures

pub returns-then-n-eq0 : goal.returns-then-n-eq0
returns-then-n-eq0 c =
    let a = c.args in
    sheeted_nothing _ _ c.requires a.clinic c.clinic_patients-set.result.0 (c.clinic_patients-set.ensures _) a.beds.now a.costs.now a.work.now c.is_empty.ensures c.if-is_empty.false c.long_enough.ensures (c.if-not-long_enough.false)
    c.list_region-n.ensures c.write_sheet-rows.ensures c.if-n-eq0.true

pub returns : goal.returns
returns c =
    let a = c.args in
    sheeted_rows_lem _ _ c.requires a.clinic c.clinic_patients-set.result.0 (c.clinic_patients-set.ensures _) a.beds.now a.costs.now a.work.now c.is_empty.ensures c.if-is_empty.false c.long_enough.ensures (c.if-not-long_enough.false)
    c.list_region-n.ensures c.write_sheet-rows.ensures c.if-n-eq0.false
