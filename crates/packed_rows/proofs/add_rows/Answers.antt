use borrow.Author.Rules.{rules}
use native.Mathlib.Omega.{arith}
use Rattle.packed_rows.proofs.Adding.{words_fit, all_added}
use Rattle.packed_rows.proofs.add_rows.Goals as goal

pub overflow_add-words : goal.overflow_add-words
overflow_add-words c =
    let s = c in
    omega (arith, (words_fit s.args.x s.args.y (search rules) (search rules) s.requires).fits c.loop-j.j)

pub returns : goal.returns
returns c =
    let l = c.loop-j in
    let s = c in
    all_added s.args.x s.args.y l.j _ (omega arith) (search rules) (search rules) s.requires l.invariant
