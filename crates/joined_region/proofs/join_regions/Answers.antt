use Rattle.std.proofs.Common.{arith, rules, ◌≡◌, length}
use Rattle.joined_region.specs.Joined.{join_said}
use Rattle.joined_region.proofs.join_regions.Goals as goal

pub returns : goal.returns
returns c =
    join_said c.args.first c.args.second c.args.store.now c.args.other.now _ _ c.entry_total.result c.entry_total-2.result
    (omega arith) c.entry_total.ensures c.entry_total-2.ensures c.append_patients.ensures c.append_tables.ensures c.append_entries.ensures
    (let wide : length c.args.store.now ≡ 4096 = search rules in omega (arith, c.requires.entries, c.entry_total.ensures))
