use Rattle.std.proofs.Common.{[], ◌∷◌}
use Rattle.text_writer.specs.Wrote.{Left}
use Rattle.row_printer.proofs.Rows.{rows_from}
use Rattle.row_printer.proofs.print_rows.Given as goal

abbrev pub invariant-loop-i : goal.invariant-loop-i
invariant-loop-i l = Left (rows_from l.v l.n l.list 0) l.initial.next l.initial.out (rows_from l.v l.n l.list l.i ∷ []) l.out l.next
