use Rattle.lent_region.specs.Lent.{lent_stands}
use Rattle.lent_region.proofs.region_lent.Goals as goal

pub returns : goal.returns
returns c =
    let start = c in
    let lent = start.args in
    lent_stands lent.patients.now lent.tables.now lent.entries.now lent.m start.requires c.first_patients.ensures c.first_tables.ensures c.store_entries.ensures
