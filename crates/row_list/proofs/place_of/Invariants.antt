use Prim.Native.Nat.{◌-◌}
use Rattle.row_list.proofs.Placing.{Between}
use Rattle.row_list.proofs.place_of.Given as goal

abbrev pub invariant-loop-low : goal.invariant-loop-low
invariant-loop-low l = Between l.n l.row l.list l.low l.high

abbrev pub decreases-loop-low : goal.decreases-loop-low
decreases-loop-low l = l.high - l.low
