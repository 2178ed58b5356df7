use Rattle.buckets.specs.Counting.{prepared_all}
use Rattle.buckets.proofs.prepare.Goals as goal

pub returns : goal.returns
returns c = prepared_all _ c.requires c.prepare_for.ensures
