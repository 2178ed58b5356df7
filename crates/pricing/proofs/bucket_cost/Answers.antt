use mathlib.Core.Path.{sym, ap, ◌∙◌}
use lib.ListN.{get_or}
use native.Mathlib.Omega.{arith}
use Rattle.pricing.proofs.Chains.{goes_start, goes_done, goes_reads, goes_inside, goes_forbidden, goes_later, goes_small, goes_next}
use Rattle.pricing.proofs.bucket_cost.Goals as goal

pub loop-k-init : goal.loop-k-init
loop-k-init c = rw c.first_term-k.ensures (goes_start c.requires)

pub entry_place-at-requires : goal.entry_place-at-requires
entry_place-at-requires c = goes_reads c.requires c.loop-k.invariant c.loop-k-test.true

pub offset_bounds-entries-at : goal.offset_bounds-entries-at
offset_bounds-entries-at c = rw c.entry_place-at.ensures (omega (arith, goes_inside c.requires c.loop-k.invariant c.loop-k-test.true))

pub bounds-entries-at : goal.bounds-entries-at
bounds-entries-at c = rw c.entry_place-at.ensures (goes_inside c.requires c.loop-k.invariant c.loop-k-test.true)

pub returns-then-entry : goal.returns-then-entry
returns-then-entry c = goes_forbidden c.requires c.loop-k.invariant c.loop-k-test.true (sym (ap (λ at. get_or c.args.entries.now at 0) c.entry_place-at.ensures) ∙ c.if-entry.true)

pub overflow_cast-sum : goal.overflow_cast-sum
overflow_cast-sum c = omega (arith, goes_small c.requires c.loop-k.invariant c.loop-k-test.true _ (ap (λ at. get_or c.args.entries.now at 0) c.entry_place-at.ensures) c.if-entry.false)

pub overflow_add-sum : goal.overflow_add-sum
overflow_add-sum c = omega (arith, goes_small c.requires c.loop-k.invariant c.loop-k-test.true _ (ap (λ at. get_or c.args.entries.now at 0) c.entry_place-at.ensures) c.if-entry.false, c.loop-k.invariant.few)

pub loop-k-smaller : goal.loop-k-smaller
loop-k-smaller c =
    let later = goes_later c.requires c.loop-k.invariant c.loop-k-test.true in
    omega (arith, later.0, later.1, c.next_term-k.ensures)

pub loop-k-preserved : goal.loop-k-preserved
loop-k-preserved c = rw c.next_term-k.ensures (goes_next c.requires c.loop-k.invariant c.loop-k-test.true _ (ap (λ at. get_or c.args.entries.now at 0) c.entry_place-at.ensures) c.if-entry.false)

pub returns : goal.returns
returns c = goes_done c.requires c.loop-k.invariant c.loop-k-test.false
