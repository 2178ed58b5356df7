use native.Mathlib.Omega.{arith}
use mathlib.Core.Path.{refl}
use Rattle.packed_rows.specs.Packed.{row_of}
use Rattle.sheets.proofs.Comparing.{row_found, row_other, rows_done}
use Rattle.sheets.proofs.has_come_before.Goals as goal

pub loop-i-init : goal.loop-i-init
loop-i-init c = refl

pub returns-then-same_beds : goal.returns-then-same_beds
returns-then-same_beds c =
    let row = row_of c.args.row in
    row_found _ _ row _ c.loop-i.invariant (omega arith) _ c.row_at-kept.ensures c.same_beds.ensures c.if-same_beds.true

pub loop-i-preserved : goal.loop-i-preserved
loop-i-preserved c =
    let row = row_of c.args.row in
    row_other _ _ row _ c.loop-i.invariant (omega arith) _ c.row_at-kept.ensures c.same_beds.ensures c.if-same_beds.false

pub returns : goal.returns
returns c = rows_done _ _ (row_of c.args.row) _ c.loop-i.invariant (omega arith)
