use mathlib.Core.Path.{sym, ap}
use native.Mathlib.Omega.{arith}
use Rattle.held_region.specs.Meaning.{optional}
use Rattle.forest.specs.Trees.{root_from}
use Rattle.forest.proofs.root_number.Goals as goal

pub bounds-roots-p : goal.bounds-roots-p
bounds-roots-p c = omega (arith, c.requires.1 _ (ap optional c.in-Some.is))

pub returns-in-Some : goal.returns-in-Some
returns-in-Some c = sym (ap (λ p. root_from c.args.roots.now c.args.s (optional p)) c.in-Some.is)
