use mathlib.Core.Path.{sym, ◌∙◌}
use Rattle.line_reader.proofs.LineEnds.{seeking_here, seeking_out}
use Rattle.line_reader.proofs.line_end.Goals as goal

pub returns-then-is_line_end : goal.returns-then-is_line_end
returns-then-is_line_end c = seeking_here c.loop-i.invariant c.loop-i-test.true (sym c.is_line_end.ensures ∙ c.if-is_line_end.true)

pub returns : goal.returns
returns c = seeking_out c.loop-i.invariant c.loop-i-test.false
