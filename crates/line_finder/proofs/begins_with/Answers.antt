use Rattle.line_finder.proofs.Openings.{begins_lem}
use Rattle.line_finder.proofs.begins_with.Goals as goal

pub returns : goal.returns
returns c = begins_lem _ _ _ c.opening_end.ensures c.is_some.ensures
