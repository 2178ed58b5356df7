use mathlib.Core.Path.{refl}
use Rattle.row_sums.specs.Sums.{work_part}
use Rattle.search.proofs.Listing.{asks_walk, asks_combine, tree_added}
use Rattle.search.proofs.add_tree.Goals as goal

pub walk-found-requires : goal.walk-found-requires
unfolding work_part
walk-found-requires c =
    let summed = c in
    asks_walk summed.requires (record { left = refl; beds = summed.new-plan.ensures.0; len = summed.new-plan.ensures.1; cost = refl; bound = summed.least_sum.ensures })

pub combine-requires : goal.combine-requires
unfolding work_part
combine-requires c =
    let summed = c in
    asks_combine summed.requires (record { left = refl; beds = summed.new-plan.ensures.0; len = summed.new-plan.ensures.1; cost = refl; bound = summed.least_sum.ensures }) c.walk-found.ensures

pub returns : goal.returns
unfolding work_part
returns c =
    let summed = c in
    tree_added summed.requires (record { left = refl; beds = summed.new-plan.ensures.0; len = summed.new-plan.ensures.1; cost = refl; bound = summed.least_sum.ensures }) c.walk-found.ensures c.combine.ensures
