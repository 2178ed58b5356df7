use Rattle.scanner.proofs.Bytes.{opening}
use Rattle.scanner.proofs.open_at.Goals as goal

pub returns : goal.returns
returns c = c.one_at.ensures 40 opening
