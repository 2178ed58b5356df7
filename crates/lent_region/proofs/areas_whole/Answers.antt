use Rattle.lent_region.proofs.Areas.{part_patient, part_table, part_entry, all_whole}
use Rattle.lent_region.proofs.areas_whole.Goals as goal

pub returns-then-patients-ne0 : goal.returns-then-patients-ne0
returns-then-patients-ne0 c =
    let lent = c.args in
    part_patient lent.patients.now lent.tables.now lent.entries.now c.if-patients-ne0.true

pub returns-then-tables-ne0 : goal.returns-then-tables-ne0
returns-then-tables-ne0 c =
    let lent = c.args in
    part_table lent.patients.now lent.tables.now lent.entries.now c.if-tables-ne0.true

pub returns-then-entries-ne0 : goal.returns-then-entries-ne0
returns-then-entries-ne0 c =
    let lent = c.args in
    part_entry lent.patients.now lent.tables.now lent.entries.now c.if-entries-ne0.true

pub returns : goal.returns
returns c =
    let lent = c.args in
    all_whole lent.patients.now lent.tables.now lent.entries.now c.if-patients-ne0.false c.if-tables-ne0.false c.if-entries-ne0.false c.counts_add_up.ensures
