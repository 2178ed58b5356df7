use Rattle.row_sums.specs.Sums.{work_part}
use Rattle.clinic_sheet.proofs.Sheets.{writable_sheet, sheet_written}
use Rattle.clinic_sheet.proofs.write_sheet.Goals as goal

pub write_rows-requires : goal.write_rows-requires
unfolding work_part
write_rows-requires c =
    writable_sheet _ _ c.args.beds.now c.args.costs.now c.args.work.now c.requires c.size-k.ensures c.sheet_rows-rows.ensures

pub returns : goal.returns
unfolding work_part
returns c =
    sheet_written _ _ c.args.beds.now c.args.costs.now c.args.work.now c.requires c.size-k.ensures c.sheet_rows-rows.ensures
    c.write_rows.ensures c.clear.ensures
