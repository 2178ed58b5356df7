use mathlib.Core.Path.{◌≡◌}
use Rattle.held_region.specs.Meaning.{mark}
use Rattle.buckets.specs.Least.{lowest, codes_in}
use Rattle.buckets.proofs.least_number.Given as goal

abbrev pub invariant-loop-i : goal.invariant-loop-i
invariant-loop-i l = lowest l.least (codes_in l.entries l.i l.to) ≡ lowest mark (codes_in l.entries l.from l.to)
