use Rattle.held_region.specs.Counts.{counts_few}
use Rattle.region_answers.proofs.Areas.{asks_list}
use Rattle.region_answers.proofs.Lists.{listed_short, writable, listed_nothing, listed_rows_lem}
use Rattle.region_answers.proofs.list_loaded.Goals as goal

pub long_enough-requires : goal.long_enough-requires
long_enough-requires c = counts_few _ _ c.requires

pub returns-then-not-long_enough : goal.returns-then-not-long_enough
returns-then-not-long_enough c =
    let a = c.args in
    listed_short _ _ c.requires a.beds.now a.costs.now a.work.now c.long_enough.ensures (c.if-not-long_enough.true)

pub list_region-n-requires : goal.list_region-n-requires
list_region-n-requires c =
    let a = c.args in
    asks_list _ _ a.beds.now a.costs.now a.work.now c.long_enough.ensures (c.if-not-long_enough.false) c.requires

pub write_rows-requires : goal.write_rows-requires
write_rows-requires c =
    let a = c.args in
    writable _ _ c.requires a.beds.now a.costs.now a.work.now c.long_enough.ensures (c.if-not-long_enough.false) c.list_region-n.ensures

pub returns-then-n-eq0 : goal.returns-then-n-eq0
returns-then-n-eq0 c =
    let a = c.args in
    listed_nothing _ _ c.requires a.beds.now a.costs.now a.work.now c.long_enough.ensures (c.if-not-long_enough.false) c.list_region-n.ensures c.if-n-eq0.true
    c.write_rows.ensures c.clear.ensures

pub returns : goal.returns
returns c =
    let a = c.args in
    listed_rows_lem _ _ c.requires a.beds.now a.costs.now a.work.now c.long_enough.ensures (c.if-not-long_enough.false) c.list_region-n.ensures c.if-n-eq0.false
    c.write_rows.ensures c.clear.ensures
