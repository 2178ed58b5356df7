-- A refusal's number is not 0.
use Rattle.std.specs.Prelude.{◌-◌, ◌≡◌}
use Rattle.definitions.specs.Basics.{suc, refl}
use Rattle.held_region.specs.declared.Refusal.{Refusal}
use Rattle.held_region.specs.declared.Refusal.TheVariants.{TooLong, Layout, Counts, Sum, Limits, Patients, Members, EntryCounts, Entries, Ancestors}
use Rattle.answers.specs.Answers.{refusal_number}

pub refusal_number_lem : (refusal : Refusal) → refusal_number refusal ≡ suc (refusal_number refusal - 1)
refusal_number_lem TooLong = refl
refusal_number_lem Layout = refl
refusal_number_lem Counts = refl
refusal_number_lem Sum = refl
refusal_number_lem Limits = refl
refusal_number_lem Patients = refl
refusal_number_lem Members = refl
refusal_number_lem EntryCounts = refl
refusal_number_lem Entries = refl
refusal_number_lem Ancestors = refl
