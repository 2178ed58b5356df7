use native.Mathlib.Omega.{arith}
use mathlib.Core.Path.{refl}
use Rattle.kept_places.proofs.Moving.{Makes, halfway_start, halfway_makes, halfway_next, halfway_done}
use Rattle.kept_places.proofs.move_places.Goals as goal
use Rattle.kept_places.proofs.move_places.Goals.{In-loop-at}

-- What is known of the move that is made.
step : (c : In-loop-at)
    → Makes c.args.moves.now c.loop-at.places c.args.old c.args.new c.loop-at.at
step c = halfway_makes c.requires c.loop-at.invariant c.loop-at-test.true

pub overflow_cast-at : goal.overflow_cast-at
overflow_cast-at c = omega (arith, (c.requires.linked.first c.args.s c.requires.few).most)

pub loop-at-init : goal.loop-at-init
loop-at-init c = halfway_start c.requires.few c.requires.kept.long

pub overflow_cast-k : goal.overflow_cast-k
overflow_cast-k c = omega (arith, step (goal.at.overflow_cast-k c).In-loop-at)

pub overflow_cast-by : goal.overflow_cast-by
overflow_cast-by c = omega (arith, step (goal.at.overflow_cast-by c).In-loop-at)

pub offset_bounds-places-k : goal.offset_bounds-places-k
offset_bounds-places-k c = omega (arith, step (goal.at.offset_bounds-places-k c).In-loop-at)

pub bounds-places-k : goal.bounds-places-k
bounds-places-k c = omega (arith, step (goal.at.bounds-places-k c).In-loop-at)

pub overflow_cast-places : goal.overflow_cast-places
overflow_cast-places c = omega (arith, step (goal.at.overflow_cast-places c).In-loop-at)

pub overflow_mul-places : goal.overflow_mul-places
overflow_mul-places c = omega (arith, step (goal.at.overflow_mul-places c).In-loop-at)

pub overflow_add-places : goal.overflow_add-places
overflow_add-places c = omega (arith, step (goal.at.overflow_add-places c).In-loop-at)

pub overflow_mul-places-in-loop-at : goal.overflow_mul-places-in-loop-at
overflow_mul-places-in-loop-at c = omega (arith, step (goal.at.overflow_mul-places-in-loop-at c).In-loop-at)

pub overflow_sub-places : goal.overflow_sub-places
overflow_sub-places c = omega (arith, step (goal.at.overflow_sub-places c).In-loop-at)

pub overflow_cast-places-in-loop-at : goal.overflow_cast-places-in-loop-at
overflow_cast-places-in-loop-at c = omega (arith, step (goal.at.overflow_cast-places-in-loop-at c).In-loop-at)

pub offset_bounds-places-k-in-loop-at : goal.offset_bounds-places-k-in-loop-at
offset_bounds-places-k-in-loop-at c = omega (arith, step (goal.at.offset_bounds-places-k-in-loop-at c).In-loop-at)

pub bounds-places-k-in-loop-at : goal.bounds-places-k-in-loop-at
bounds-places-k-in-loop-at c = omega (arith, step (goal.at.bounds-places-k-in-loop-at c).In-loop-at)

pub overflow_cast-at-in-loop-at : goal.overflow_cast-at-in-loop-at
overflow_cast-at-in-loop-at c = omega (arith, step (goal.at.overflow_cast-at-in-loop-at c).In-loop-at)

pub loop-at-smaller : goal.loop-at-smaller
loop-at-smaller c = omega (arith, step (goal.at.loop-at-smaller c).In-loop-at)

pub loop-at-preserved : goal.loop-at-preserved
loop-at-preserved c = halfway_next c.requires c.loop-at.invariant c.loop-at-test.true _ refl

pub returns : goal.returns
returns c = halfway_done c.loop-at.invariant c.loop-at-test.false
