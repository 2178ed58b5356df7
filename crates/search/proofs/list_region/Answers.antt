use mathlib.Core.Path.{subst}
use Rattle.held_region.specs.Sound.{accepted_parents}
use Rattle.held_region.specs.Asked.{tables_said}
use Rattle.bucket_words.specs.Kept.{Bounded}
use Rattle.search.proofs.Forests.{forest}
use Rattle.search.proofs.list_region.Goals as goal

pub root_numbers-roots-requires : goal.root_numbers-roots-requires
root_numbers-roots-requires c = accepted_parents _ _ c.requires.accepted

pub moves_of-moves-requires : goal.moves_of-moves-requires
moves_of-moves-requires c =
    let made = c in
    subst (Bounded _) (tables_said made.args.region made.args.store.now) made.prepare-buckets.ensures.numbered.bounded

pub list_trees-requires : goal.list_trees-requires
list_trees-requires c =
    let roots = c in
    let made = roots in
    record {
      region = _;
      forest = forest _ _ made.prepare-buckets.ensures.prepared (roots.root_numbers-roots.ensures _);
      numbered = made.prepare-buckets.ensures.numbered;
      linked = c.moves_of-moves.ensures;
      long = made.requires.long;
    }

pub returns : goal.returns
returns c =
    let gives = c.list_trees.ensures in
    let roots = c in
    record {
      count = gives.count;
      long = gives.long;
      list = gives.list _ (forest _ _ roots.prepare-buckets.ensures.prepared (roots.root_numbers-roots.ensures _));
    }
