use mathlib.Core.Path.{refl}
use Rattle.held_region.proofs.blank.Goals as goal

pub returns : goal.returns
returns c = refl
