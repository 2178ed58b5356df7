use native.Mathlib.Omega.{arith}
use mathlib.Core.Path.{◌≡◌}
use Rattle.kept_places.proofs.Linking.{linked_none, asks_term}
use Rattle.kept_places.proofs.moves_of.Goals as goal

pub loop-k-init : goal.loop-k-init
loop-k-init c = linked_none c.requires

pub add_moves-requires : goal.add_moves-requires
add_moves-requires c = asks_term c.requires (omega arith) (omega arith) c.loop-k.invariant

pub returns : goal.returns
returns c =
    let none : c.loop-k.k ≡ 0 = omega arith in
    rw none at c.loop-k.invariant
