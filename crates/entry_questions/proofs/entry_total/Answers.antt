use borrow.Author.Rules.{rules}
use mathlib.Core.Path.{◌≡◌, ap}
use native.Mathlib.Omega.{arith}
use native.Mathlib.Numerals.{add-one}
use Rattle.held_region.specs.Meaning.{start_in}
use Rattle.entry_questions.proofs.entry_total.Goals as goal

pub overflow_add-total : goal.overflow_add-total
overflow_add-total c = omega (arith, c.requires.entries _ c.loop-i-test.true)

pub loop-i-preserved : goal.loop-i-preserved
loop-i-preserved c =
    let region = c.args.region in
    let i = c.loop-i.i in (
      omega (arith, c.requires.entries i c.loop-i-test.true),
      search rules,
      omega (arith, ap (start_in region) (add-one i)),
    )

pub returns : goal.returns
returns c =
    let last : c.loop-i.i ≡ c.args.region.t = omega arith in
    omega (arith, ap (start_in c.args.region) last)
