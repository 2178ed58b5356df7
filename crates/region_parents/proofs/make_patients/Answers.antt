use borrow.Author.Rules.{rules}
use mathlib.Core.Path.{refl, ap, ◌∙◌}
use Prim.Native.Nat.{◌-◌}
use native.Mathlib.Omega.{arith}
use Rattle.std.specs.Prelude.{◌&&◌}
use Rattle.held_region.specs.Related.{set_in}
use Rattle.region_parents.specs.Making.{underway_none, underway_next, underway_all}
use Rattle.region_parents.proofs.make_patients.Goals as goal

pub loop-s-init : goal.loop-s-init
loop-s-init c = (omega arith, underway_none _ _ _ c.requires.1 (search rules))

pub offset_bounds-near-s : goal.offset_bounds-near-s
offset_bounds-near-s c = omega (arith, c.loop-s.invariant.0, c.requires.0.places.patients)

pub bounds-near-s : goal.bounds-near-s
bounds-near-s c = omega (arith, c.loop-s.invariant.0, c.requires.0.places.patients, c.loop-s.invariant.1.near.wide)

pub below-requires : goal.below-requires
below-requires c = let turn = c in omega (arith, c.loop-s.invariant.0, c.requires.0.places.patients)

pub offset_bounds-region-s : goal.offset_bounds-region-s
offset_bounds-region-s c = let turn = c in omega (arith, c.loop-s.invariant.0, c.requires.0.places.patients)

pub bounds-region-s : goal.bounds-region-s
bounds-region-s c = let turn = c in omega (arith, c.loop-s.invariant.0, c.requires.0.places.patients)

pub offset_bounds-patients-s : goal.offset_bounds-patients-s
offset_bounds-patients-s c = let turn = c in omega (arith, c.loop-s.invariant.0, c.requires.0.places.patients)

pub bounds-patients-s : goal.bounds-patients-s
bounds-patients-s c =
    omega (arith, c.loop-s.invariant.0, c.requires.0.places.patients, c.loop-s.invariant.1.wide)

pub loop-s-smaller : goal.loop-s-smaller
loop-s-smaller c = omega (arith, c.loop-s-test.true)

pub loop-s-preserved : goal.loop-s-preserved
loop-s-preserved c = (
  omega (arith, c.loop-s.invariant.0),
  underway_next c.loop-s.s c.loop-s.invariant.1 c.loop-s-test.true (omega (arith, c.loop-s.invariant.0, c.requires.0.places.patients)) c.meet-earlier.result.0 (search rules)
      (λ q. c.meet-earlier.ensures q ∙ ap (λ b. set_in c.loop-s.near (c.loop-s.s - 1) q && b) (c.below.ensures q)) _ _ refl c.parent_among.ensures c.gather.ensures,
)

pub returns : goal.returns
returns c = underway_all c.loop-s.invariant.1 c.loop-s-test.false
