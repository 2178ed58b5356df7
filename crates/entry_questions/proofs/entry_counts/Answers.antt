use native.Mathlib.Omega.{arith}
use Rattle.held_region.specs.Entries.{beds_read}
use Rattle.entry_questions.proofs.Counting.{counting_none, counting_wrong, counted_small, counting_next, counting_done}
use Rattle.entry_questions.proofs.entry_counts.Goals as goal

pub loop-i-init : goal.loop-i-init
loop-i-init c = counting_none _ c.requires

pub bed_product-requires : goal.bed_product-requires
bed_product-requires c =
    let start = c in
    beds_read start.args.region start.requires _ c.loop-i-test.true

pub returns-then-table-bed_product : goal.returns-then-table-bed_product
returns-then-table-bed_product c =
    let turn = c in
    counting_wrong _ turn.requires turn.loop-i.invariant turn.loop-i-test.true c.bed_product.ensures c.if-table-bed_product.true

pub overflow_add-n : goal.overflow_add-n
overflow_add-n c =
    let turn = c in
    omega (arith, counted_small _ turn.requires turn.loop-i.invariant turn.loop-i-test.true c.bed_product.ensures c.if-table-bed_product.false)

pub loop-i-preserved : goal.loop-i-preserved
loop-i-preserved c =
    let turn = c in
    counting_next _ turn.requires turn.loop-i.invariant turn.loop-i-test.true c.bed_product.ensures c.if-table-bed_product.false

pub returns : goal.returns
returns c =
    let loop = c in
    counting_done _ loop.requires loop.loop-i.invariant c.loop-i-test.false c.then_some.ensures c.within.ensures
