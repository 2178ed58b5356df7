use mathlib.Core.Path.{sym, ◌∙◌}
use Prim.Native.Nat.{◌<◌}
use native.Mathlib.Omega.{arith}
use Rattle.search.proofs.Forests.{forest_few, asks_start, listed_start, listed_done, asks_tree, listed_tree, listed_none}
use Rattle.search.proofs.list_trees.Goals as goal

pub start_list-requires : goal.start_list-requires
start_list-requires c = asks_start c.requires

pub loop-k-init : goal.loop-k-init
loop-k-init c = listed_start c.requires c.start_list.ensures

pub tree-set-requires : goal.tree-set-requires
tree-set-requires c = forest_few c.requires

pub add_tree-n-requires : goal.add_tree-n-requires
add_tree-n-requires c = asks_tree c.requires c.loop-k.invariant c.start_list.ensures.long (omega arith) _ c.tree-set.ensures

pub loop-k-preserved : goal.loop-k-preserved
loop-k-preserved c =
    let pre = c.requires in
    let inv = c.loop-k.invariant in
    let same = c.start_list.ensures.long in
    let more : c.loop-k.k < c.args.sources.now.v = omega arith in
    elim c.if-not-is_empty.branch [
      | goal.then-not-is_empty w ↦ rw (w.work-is, w.n-is) (listed_tree pre inv same more _ c.tree-set.ensures w.add_tree-n.ensures)
      | goal.else-not-is_empty w ↦ rw (w.work-is, w.n-is) (listed_none pre inv same more _ c.tree-set.ensures (sym c.is_empty.ensures ∙ w.if-not-is_empty.false))
    ]

pub returns : goal.returns
returns c = listed_done c.requires c.loop-k.invariant c.start_list.ensures.long (omega arith)
