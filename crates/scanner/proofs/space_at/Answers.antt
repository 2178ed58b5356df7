use Rattle.scanner.proofs.Bytes.{space}
use Rattle.scanner.proofs.space_at.Goals as goal

pub returns : goal.returns
returns c = c.one_at.ensures 32 space
