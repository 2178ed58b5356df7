use Rattle.sheets.proofs.Keeping.{kept_old, kept_new}
use Rattle.sheets.proofs.keep_new.Goals as goal

pub returns-then-has_come_before : goal.returns-then-has_come_before
returns-then-has_come_before c = kept_old _ _ _ c.has_come_before.ensures c.if-has_come_before.true

pub returns : goal.returns
returns c =
    let asked = c in
    kept_new _ _ _ asked.has_come_before.ensures _ c.set_row.ensures c.if-has_come_before.false
