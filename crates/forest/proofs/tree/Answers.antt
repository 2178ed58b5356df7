use borrow.Author.Tests.{le-ltb, eq-eqb, ne_eqb}
use mathlib.Core.Bool.{Bool, true, false, or-false}
use mathlib.Core.Path.{◌≡◌, sym, ap, ◌∙◌}
use Prim.Native.Nat.{ℕ}
use native.Mathlib.Omega.{arith}
use Rattle.std.specs.Prelude.{◌&&◌, ◌||◌}
use Rattle.definitions.specs.Basics.{eqb, ltb, get_or}
use Rattle.patient_set.specs.declared.PatientSet.{PatientSet}
use Rattle.patient_set.specs.Sets.{in_set}
use Rattle.held_region.specs.Sets.{in_none, one_place}
use Rattle.forest.proofs.tree.Goals as goal

pub loop-s-init : goal.loop-s-init
loop-s-init c = λ q. in_none q ∙ sym (ap (λ b. b && eqb (get_or c.args.roots.now q 0) c.args.k) (le-ltb q 0 (omega arith)))

pub loop-s-preserved : goal.loop-s-preserved
loop-s-preserved c =
    let loop = c.loop-s in
    let there : ℕ → Bool = λ q. eqb (get_or c.args.roots.now q 0) c.args.k in
    λ q. elim c.if-roots-s.branch [
      | goal.then-roots-s w ↦ ap (λ (x : PatientSet). in_set x.0 q) w.set-is ∙ w.add-set.ensures q ∙ ap (λ b. b || eqb q loop.s) (loop.invariant q) ∙ one_place there loop.s q true (eq-eqb _ _ w.if-roots-s.true)
      | goal.else-roots-s w ↦ ap (λ (x : PatientSet). in_set x.0 q) w.set-is ∙ loop.invariant q ∙ sym (or-false _) ∙ one_place there loop.s q false (ne_eqb _ _ w.if-roots-s.false)
    ]

pub returns : goal.returns
returns c =
    let args = c.args in
    let last : c.loop-s.s ≡ args.v = omega arith in
    λ q. c.loop-s.invariant q ∙ ap (λ s. ltb q s && eqb (get_or args.roots.now q 0) args.k) last
