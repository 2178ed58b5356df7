use Rattle.line_finder.proofs.Openings.{listed, not_listed}
use Rattle.line_finder.proofs.typed_right.Goals as goal

pub returns-in-Some : goal.returns-in-Some
returns-in-Some c = listed c.members_at.ensures _ c.in-Some.is

pub returns-in-None : goal.returns-in-None
returns-in-None c = not_listed c.members_at.ensures c.in-None.is
