use Rattle.sheets.proofs.Given.{list_asked_lem, sheet_given}
use Rattle.sheets.proofs.sheet_rows.Goals as goal

pub prepare_for-buckets-requires : goal.prepare_for-buckets-requires
prepare_for-buckets-requires c =
    c.requires.accepted

pub keep_rows-requires : goal.keep_rows-requires
keep_rows-requires c =
    let made = c in
    list_asked_lem _ _ _ _ _ _ _ made.requires.accepted made.prepare_for-buckets.ensures.prepared made.requires

pub returns : goal.returns
returns c =
    let walked = c in
    let made = walked in
    sheet_given _ _ _ _ _ _ _ made.requires.accepted made.prepare_for-buckets.ensures.prepared _ _ walked.keep_rows.ensures
