use native.Mathlib.Omega.{arith}
use Rattle.std.proofs.lemmas.Grind.{common_steps}
use Rattle.byte_areas.proofs.Stores.{bytes_put}
use Rattle.byte_areas.proofs.store_number.Goals as goal

pub returns : goal.returns
returns c = bytes_put c.args.at c.args.n c.args.area.now c.requires (omega arith) (grind (arith, common_steps))
