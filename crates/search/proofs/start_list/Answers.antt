use Rattle.row_sums.specs.Sums.{work_part}
use Rattle.search.proofs.Listing.{started}
use Rattle.search.proofs.start_list.Goals as goal

pub returns : goal.returns
unfolding work_part
returns c = started _ _ _ _ c.requires c.pack-row.ensures c.set_row.ensures
