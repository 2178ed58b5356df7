use Rattle.std.proofs.Common.{rules}
use Rattle.std.specs.declared.cmp.Ordering.TheVariants.{Less, Equal, Greater}
use Rattle.packed_rows.proofs.Comparing.{answered}
use Rattle.packed_rows.proofs.precedes.Goals as goal

pub returns-in-Less : goal.returns-in-Less
returns-in-Less c = answered c.args.x c.args.y (search rules) (search rules) c.args.equal Less (search rules)

pub returns-in-Equal : goal.returns-in-Equal
returns-in-Equal c = answered c.args.x c.args.y (search rules) (search rules) c.args.equal Equal (search rules)

pub returns-in-Greater : goal.returns-in-Greater
returns-in-Greater c = answered c.args.x c.args.y (search rules) (search rules) c.args.equal Greater (search rules)
