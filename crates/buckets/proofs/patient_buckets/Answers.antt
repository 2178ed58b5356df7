use mathlib.Core.Path.{◌≡◌, refl}
use native.Mathlib.Omega.{arith}
use Rattle.buckets.proofs.Writing.{none_least, patients_more}
use Rattle.buckets.proofs.patient_buckets.Goals as goal

pub loop-s-init : goal.loop-s-init
loop-s-init c = record { wide = refl; beds = λ s h. absurd (omega arith); first_bed = λ s h. absurd (omega arith); bed_end = λ s h. absurd (omega arith); least = λ s. none_least _ refl 32 s; first = λ s h. absurd (omega arith) }

pub permitted_end-requires : goal.permitted_end-requires
permitted_end-requires c = c.requires.1 _ (omega arith)

pub loop-s-preserved : goal.loop-s-preserved
loop-s-preserved c = rw (c.first_permitted.ensures, c.permitted_end.ensures) (patients_more _ _ _ (omega (arith, c.requires.0)) c.loop-s.invariant)

pub returns : goal.returns
returns c =
    let last : c.loop-s.s ≡ c.args.v = omega arith in
    rw last at c.loop-s.invariant
