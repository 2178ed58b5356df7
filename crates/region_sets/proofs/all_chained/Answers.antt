use Rattle.std.proofs.Common.{arith}
use Rattle.patient_set.specs.Laws.{coming_patient}
use Rattle.region_sets.proofs.all_chained.Goals as goal

pub offset_bounds-ancestors-b : goal.offset_bounds-ancestors-b
offset_bounds-ancestors-b c = omega (arith, coming_patient _ _ _ c.in-Some.ensures.steps)

pub bounds-ancestors-b : goal.bounds-ancestors-b
bounds-ancestors-b c = coming_patient _ _ _ c.in-Some.ensures.steps

pub lower_above-requires : goal.lower_above-requires
lower_above-requires c = coming_patient _ _ _ c.in-Some.ensures.steps
