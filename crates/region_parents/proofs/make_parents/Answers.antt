use Rattle.region_parents.specs.Making.{made_said}
use Rattle.region_parents.proofs.make_parents.Goals as goal

pub returns : goal.returns
returns c = λ store. made_said c.args.region _ c.make_patients.ensures store
