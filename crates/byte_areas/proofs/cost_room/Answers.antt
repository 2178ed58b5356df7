use native.Mathlib.Omega.{arith}
use Rattle.std.proofs.lemmas.Grind.{common_steps}
use Rattle.byte_areas.specs.Room.{cost_room}
use Rattle.byte_areas.proofs.cost_room.Goals as goal

pub returns-then-res-lt8 : goal.returns-then-res-lt8
unfolding cost_room
returns-then-res-lt8 c = grind (arith, common_steps)

pub returns-else-res-lt8 : goal.returns-else-res-lt8
unfolding cost_room
returns-else-res-lt8 c = grind (arith, common_steps)
