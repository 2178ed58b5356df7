use Rattle.printer.proofs.Sheets.{Printed}
use Rattle.printer.proofs.print_sheets.Given as goal

abbrev pub invariant-loop-clinic : goal.invariant-loop-clinic
invariant-loop-clinic l = Printed l.region l.store l.n l.clinic l.at l.initial.out l.initial.work l.out l.work l.next
