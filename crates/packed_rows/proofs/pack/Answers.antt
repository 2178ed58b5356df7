use Rattle.std.proofs.Common.{arith, rules, ap, ℕ, List}
use Rattle.packed_rows.proofs.Packing.{all_packed}
use Rattle.packed_rows.proofs.pack.Goals as goal

pub returns : goal.returns
returns c =
    let a = c.args in
    ap (λ (beds : List ℕ). record { cost = a.cost; beds = beds })
    (all_packed a.v a.beds.now (omega arith) (search rules) _ _ _ _ c.packed_word.ensures c.packed_word-2.ensures c.packed_word-3.ensures c.packed_word-4.ensures)
