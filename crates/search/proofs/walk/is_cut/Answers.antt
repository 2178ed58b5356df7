use native.Mathlib.Omega.{arith}
use mathlib.Core.Path.{ap, ◌∙◌, subst}
use Prim.Native.Nat.{ℕ, ◌<◌}
use lib.ListN.{set, length-set}
use Rattle.packed_rows.specs.Packing.{packed_row}
use Rattle.search.proofs.Cutting.{not_full, cheaper, costlier}
use Rattle.search.proofs.Padded.{past_cut}
use Rattle.search.proofs.walk.is_cut.Goals as goal

pub returns-then-n-m : goal.returns-then-n-m
returns-then-n-m c =
    let a = c.args in
    not_full a.v a.n a.m _ a.cost _ c.if-n-m.true

pub returns-then-cost-last : goal.returns-then-cost-last
returns-then-cost-last c =
    let a = c.args in
    cheaper a.v a.n a.m _ a.cost _ c.requires.room (omega arith) (subst (λ (k : ℕ). a.cost < k) c.cost_at-last.ensures c.if-cost-last.true)

pub returns-then-last-cost : goal.returns-then-last-cost
returns-then-last-cost c =
    let a = c.args in
    costlier a.v a.n a.m _ a.cost _ c.requires.room (omega arith) (subst (λ (k : ℕ). k < a.cost) c.cost_at-last.ensures c.if-last-cost.true)

pub returns : goal.returns
returns c =
    let a = c.args in
    let p = c.requires in
    let beds = a.plan.beds in
    let packed = c.pack-row.ensures ∙ ap (packed_row a.v a.cost) c.place-longer.ensures.0 in
    past_cut a.v a.n a.m _ p.patients p.padded p.room (omega arith) a.cost (set beds a.s a.bed) (length-set beds a.s a.bed ∙ p.long) p.low _ packed c.is_past.ensures
