use Rattle.std.proofs.Common.{arith}
use Rattle.planner.proofs.HandedBack.{within, handed_back, handed_end}
use Rattle.planner.proofs.line.Goals as goal

pub overflow_add-end : goal.overflow_add-end
overflow_add-end c = omega (arith, within c.args.file.now c.args.typed.now c.in-Ok.ensures)

pub slice_bounds-result-end : goal.slice_bounds-result-end
slice_bounds-result-end c = within c.args.file.now c.args.typed.now c.in-Ok.ensures

pub returns-in-Ok : goal.returns-in-Ok
returns-in-Ok c = let a = c.args in handed_back a.file.now a.typed.now c.in-Ok.ensures a.file.ref_ptr.0 a.file.ref_ptr.1

pub returns-in-Err : goal.returns-in-Err
returns-in-Err c = let a = c.args in handed_end a.file.now a.typed.now (rw c.number.ensures c.in-Err.ensures) a.file.ref_ptr.0 a.file.ref_ptr.1
