use native.Mathlib.Omega.{arith}
use mathlib.Core.Path.{refl}
use Rattle.lists.specs.Loops.{ask_all, ask_yes, ask_no, ask_done}
use Rattle.pricing.proofs.Placed.{not_counted, counted, bed_no, bed_yes}
use Rattle.pricing.proofs.plan_fits.Goals as goal

pub returns-then-beds-v : goal.returns-then-beds-v
returns-then-beds-v c = not_counted c.args.buckets.now.patients c.args.v c.args.beds.now c.if-beds-v.true

pub loop-s-init : goal.loop-s-init
loop-s-init c = ask_all _ _ refl

pub returns-then-bed_count-beds : goal.returns-then-bed_count-beds
returns-then-bed_count-beds c =
    let loop = c in
    let a = loop.args in
    let no_bed = bed_no a.buckets.now.patients a.beds.now loop.loop-s.s c.bed_count.ensures refl c.if-bed_count-beds.true in
    counted a.buckets.now.patients a.v a.beds.now loop.if-beds-v.false (ask_no _ _ _ (omega arith) no_bed loop.loop-s.invariant)

pub loop-s-preserved : goal.loop-s-preserved
loop-s-preserved c =
    let loop = c in
    let a = loop.args in
    let yes-bed = bed_yes a.buckets.now.patients a.beds.now loop.loop-s.s c.bed_count.ensures refl c.if-bed_count-beds.false in
    ask_yes _ _ _ (omega arith) yes-bed loop.loop-s.invariant

pub returns : goal.returns
returns c = counted c.args.buckets.now.patients c.args.v c.args.beds.now c.if-beds-v.false (ask_done _ _ _ (omega arith) c.loop-s.invariant)
