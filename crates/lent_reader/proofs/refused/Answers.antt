use mathlib.Core.Path.{refl}
use Rattle.lent_reader.proofs.refused.Goals as goal

pub returns : goal.returns
returns c = (refl, c.store_result.ensures)
