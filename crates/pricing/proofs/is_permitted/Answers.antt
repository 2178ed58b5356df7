use Rattle.pricing.proofs.Permitted.{before_first, from_first}
use Rattle.pricing.proofs.is_permitted.Goals as goal

pub first_bed-requires : goal.first_bed-requires
first_bed-requires c = c.requires

pub bed_end-requires : goal.bed_end-requires
bed_end-requires c = c.requires

pub returns-then-first_bed-bed : goal.returns-then-first_bed-bed
returns-then-first_bed-bed c =
    let a = c.args in
    from_first a.buckets.now.patients a.s a.bed c.first_bed.ensures c.if-first_bed-bed.true c.bed_end.ensures

pub returns-else-first_bed-bed : goal.returns-else-first_bed-bed
returns-else-first_bed-bed c =
    let a = c.args in
    before_first a.buckets.now.patients a.s a.bed c.first_bed.ensures c.if-first_bed-bed.false
