use mathlib.Core.Path.{sym, ap, ◌∙◌}
use mathlib.Core.List.{map}
use Prim.Native.Nat.{◌*◌}
use native.Mathlib.Nat.{le_refl, one-mul, mul-one}
use native.Mathlib.Omega.{arith}
use Rattle.definitions.specs.Basics.{product}
use Rattle.held_region.specs.Sound.{bed_count_in}
use Rattle.held_region.specs.Members.{members_all, members_done}
use Rattle.entry_questions.proofs.Products.{more_most, more_fits, more_product}
use Rattle.entry_questions.proofs.bed_product.Goals as goal

pub loop-i-init : goal.loop-i-init
loop-i-init c = (le_refl 1, one-mul _ ∙ ap (λ l. product (map (bed_count_in c.args.patients.now) l)) (members_all c.args.table))

pub offset_bounds-patients-table : goal.offset_bounds-patients-table
offset_bounds-patients-table c = omega (arith, c.requires.known _ c.loop-i-test.true)

pub bounds-patients-table : goal.bounds-patients-table
bounds-patients-table c = c.requires.known _ c.loop-i-test.true

pub overflow_mul-n : goal.overflow_mul-n
overflow_mul-n c = record { fits = more_fits _ _ _ _ c.requires c.loop-i-test.true c.loop-i.invariant.0 }

pub loop-i-preserved : goal.loop-i-preserved
loop-i-preserved c =
    let pre = c.requires in
    let more = c.loop-i-test.true in
    let inv = c.loop-i.invariant in
    (more_most _ _ _ _ pre more inv.0, sym (more_product _ _ _ _ pre more) ∙ inv.1)

pub returns : goal.returns
returns c =
    sym (mul-one _)
    ∙ ap (λ l. c.loop-i.n * product (map (bed_count_in c.args.patients.now) l)) (sym (members_done c.args.table _ c.loop-i-test.false))
    ∙ c.loop-i.invariant.1
