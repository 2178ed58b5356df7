use Rattle.std.proofs.Common.{rules}
use Rattle.held_region.specs.Meaning.{no_patient}
use Rattle.joined_region.specs.Joined.{patients_joined}
use Rattle.joined_region.proofs.append_patients.Goals as goal

pub returns : goal.returns
returns c =
    let first = c.args.first in
    let second = c.args.second in
    patients_joined first second c.append.result (λ q l. let given = c.append.ensures.first_given no_patient q l in search rules)
    (λ k l. let given = c.append.ensures.second_given no_patient k l in search rules)
