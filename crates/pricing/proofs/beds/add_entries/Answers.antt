use native.Mathlib.Omega.{arith}
use mathlib.Core.Path.{refl}
use Rattle.pricing.proofs.Adding.{added_start, added_small, added_next, added_done}
use Rattle.pricing.proofs.beds.add_entries.Goals as goal

pub loop-bed-init : goal.loop-bed-init
loop-bed-init c = added_start c.requires

pub overflow_add-from : goal.overflow_add-from
overflow_add-from c = omega (arith, c.requires.inside _ c.loop-bed.invariant.begun (omega arith))

pub offset_bounds-entries-from : goal.offset_bounds-entries-from
offset_bounds-entries-from c = omega (arith, c.requires.inside _ c.loop-bed.invariant.begun (omega arith))

pub bounds-entries-from : goal.bounds-entries-from
bounds-entries-from c = c.requires.inside _ c.loop-bed.invariant.begun (omega arith)

pub add_entry-requires : goal.add_entry-requires
add_entry-requires c = added_small c.requires c.loop-bed.invariant (omega arith) _ refl

pub loop-bed-preserved : goal.loop-bed-preserved
loop-bed-preserved c = added_next c.requires c.loop-bed.invariant (omega arith) _ _ _ refl refl c.add_entry.ensures

pub returns : goal.returns
returns c = added_done c.requires (omega arith) c.loop-bed.invariant
