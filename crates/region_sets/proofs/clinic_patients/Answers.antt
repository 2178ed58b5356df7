use native.Mathlib.Omega.{arith}
use mathlib.Core.Path.{sym, ◌∙◌}
use Rattle.region_sets.proofs.Clinics.{nobody_held, clinic_narrow}
use Rattle.region_sets.proofs.clinic_patients.Goals as goal

pub returns-then-not-within : goal.returns-then-not-within
returns-then-not-within c = nobody_held _ _ c.requires (sym c.within.ensures ∙ c.if-not-within.true)

pub overflow_cast-clinic : goal.overflow_cast-clinic
overflow_cast-clinic c = omega (arith, clinic_narrow _ (sym c.within.ensures ∙ c.if-not-within.false))
