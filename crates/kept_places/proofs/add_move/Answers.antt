use Rattle.kept_places.proofs.Linking.{added}
use Rattle.kept_places.proofs.add_move.Goals as goal

pub returns : goal.returns
returns c = added c.requires
