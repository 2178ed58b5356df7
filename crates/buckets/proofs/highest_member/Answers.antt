use mathlib.Core.Path.{refl}
use Rattle.buckets.proofs.highest_member.Goals as goal

pub returns : goal.returns
returns c = refl
