use mathlib.Core.Path.{refl}
use native.Mathlib.Omega.{arith}
use lib.ListN.{length-set}
use Rattle.held_region.specs.Asked.{patients_said_lem}
use Rattle.forest.proofs.Roots.{parent_known, root_numbers_more}
use Rattle.forest.proofs.root_numbers.Goals as goal

pub loop-s-init : goal.loop-s-init
loop-s-init c = (refl, λ store s l. absurd (omega arith))

pub offset_bounds-region-s : goal.offset_bounds-region-s
offset_bounds-region-s c = omega (arith, c.requires.places.patients)

pub bounds-region-s : goal.bounds-region-s
bounds-region-s c = omega (arith, c.requires.places.patients)

pub root_number-root-requires : goal.root_number-root-requires
root_number-root-requires c =
    let first = c.requires in
    (omega (arith, first.places.patients), parent_known _ first _ (omega arith))

pub offset_bounds-roots-s : goal.offset_bounds-roots-s
offset_bounds-roots-s c = omega (arith, c.requires.places.patients)

pub bounds-roots-s : goal.bounds-roots-s
bounds-roots-s c = omega (arith, c.requires.places.patients)

pub loop-s-preserved : goal.loop-s-preserved
loop-s-preserved c =
    let loop = c in
    let first = loop.requires in
    let room = first.places.patients in
    let inv = loop.loop-s.invariant in
    (simp length-set inv.0, root_numbers_more _ first _ (omega arith) _ _ (omega (arith, room)) c.root_number-root.ensures inv.1)

pub returns : goal.returns
returns c =
    let loop = c in
    λ store. record { roots = λ s l. loop.loop-s.invariant.1 store s (omega (arith, patients_said_lem loop.args.region store)) }
