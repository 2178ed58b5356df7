use mathlib.Core.Path.{◌≡◌}
use lib.ListN.{drop}
use Rattle.definitions.specs.Basics.{any}
use Rattle.definitions.specs.Sheets.{same_beds}
use Rattle.packed_rows.specs.Packed.{row_of}
use Rattle.row_list.specs.Rows.{whole_rows}
use Rattle.sheets.proofs.has_come_before.Given as goal

abbrev pub invariant-loop-i : goal.invariant-loop-i
invariant-loop-i l = any (same_beds (row_of l.row)) (drop l.i (whole_rows l.n l.sheet)) ≡ any (same_beds (row_of l.row)) (whole_rows l.n l.sheet)
