use native.Mathlib.Omega.{arith}
use mathlib.Core.Path.{ap}
use Prim.Native.Nat.{◌+◌}
use lib.ListN.{get_or}
use Rattle.pricing.proofs.BedSums.{sums_start, sums_near, sums_entries, sums_later, sums_next, sums_done}
use Rattle.pricing.proofs.beds.bed_costs.Goals as goal

pub loop-k-init : goal.loop-k-init
loop-k-init c = rw (c.requires.1, c.first_term-k.ensures) (sums_start c.requires.0)

pub overflow_cast-from : goal.overflow_cast-from
overflow_cast-from c = omega (arith, sums_near c.requires.0 c.loop-k.invariant c.loop-k-test.true)

pub overflow_add-from : goal.overflow_add-from
overflow_add-from c = omega (arith, sums_near c.requires.0 c.loop-k.invariant c.loop-k-test.true, c.entry_start.ensures)

pub add_entries-requires : goal.add_entries-requires
add_entries-requires c =
    let turn = c in
    sums_entries turn.requires.0 turn.loop-k.invariant turn.loop-k-test.true (ap (λ n. n + get_or turn.args.places.now turn.loop-k.k 0) c.entry_start.ensures)

pub loop-k-smaller : goal.loop-k-smaller
loop-k-smaller c =
    let turn = c in
    let later = sums_later turn.requires.0 turn.loop-k.invariant turn.loop-k-test.true in
    omega (arith, later.0, later.1, c.next_term-k.ensures)

pub loop-k-preserved : goal.loop-k-preserved
loop-k-preserved c =
    let turn = c in
    rw c.next_term-k.ensures
    (sums_next turn.requires.0 turn.loop-k.invariant turn.loop-k-test.true
    (ap (λ n. n + get_or turn.args.places.now turn.loop-k.k 0) c.entry_start.ensures) c.add_entries.ensures)

pub returns : goal.returns
returns c = sums_done c.requires.0 c.loop-k.invariant c.loop-k-test.false
