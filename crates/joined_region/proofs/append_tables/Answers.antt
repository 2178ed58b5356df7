use Rattle.std.proofs.Common.{rules}
use Rattle.joined_region.specs.Joined.{tables_joined, none_there}
use Rattle.joined_region.proofs.append_tables.Goals as goal

pub returns : goal.returns
returns c =
    let first = c.args.first in
    let second = c.args.second in
    tables_joined first second c.append.result (λ q l. let given = c.append.ensures.first_given none_there q l in search rules)
    (λ k l. let given = c.append.ensures.second_given none_there k l in search rules)
