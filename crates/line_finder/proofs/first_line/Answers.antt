use mathlib.Core.Path.{sym, ◌∙◌}
use Rattle.line_finder.proofs.Searching.{found_here}
use Rattle.line_finder.proofs.first_line.Goals as goal

pub returns-then-begins_with : goal.returns-then-begins_with
returns-then-begins_with c = found_here c.loop-start.invariant c.loop-start-test.true c.line_end-end.ensures (sym c.begins_with.ensures ∙ c.if-begins_with.true)
