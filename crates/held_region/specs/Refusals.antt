-- The number of each answer, and what the questions from the fifth on are asked of.
use Rattle.std.specs.Prelude.{◌&&◌, ◌||◌, ◌∷◌, ◌++◌, Result, Ok, Err}
use Rattle.definitions.specs.Basics.{ℕ, Bool, not, cond, []}
use Rattle.definitions.specs.Syntax as Said
use Rattle.definitions.specs.Questions.{Asked, asked_to_nine, patients_within, parents_smaller, entry_counts_right, entries_within, members_related}
use Rattle.held_region.specs.declared.Refusal.{Refusal}
use Rattle.held_region.specs.declared.Refusal.TheVariants.{TooLong, Layout, Counts, Sum, Limits, Patients, Members, EntryCounts, Entries, Ancestors}

-- The paper's number of each question.
abbrev pub question_of : Refusal → ℕ
question_of TooLong = 1
question_of Layout = 2
question_of Counts = 3
question_of Sum = 4
question_of Limits = 5
question_of Patients = 6
question_of Members = 7
question_of EntryCounts = 8
question_of Entries = 9
question_of Ancestors = 10

-- The number of an answer: 0 where all of them are answered yes, whatever is then given.
abbrev pub number_of : {A : Type 0} → Result A Refusal → ℕ
number_of (Ok a) = 0
number_of (Err refusal) = question_of refusal

-- Questions 5 to 10 as they are asked of what is said, with or without what they ask of parents: the half of 6, and 10. The last three alone.
unfoldable pub last_asked : Bool → Said.Region → Asked
last_asked parents r = (8, entry_counts_right r) ∷ (9, entries_within r) ∷ cond parents ((10, members_related r) ∷ []) []

unfoldable pub asked : Bool → Said.Region → Asked
asked parents r = asked_to_nine r (patients_within r && (not parents || parents_smaller r)) ++ cond parents ((10, members_related r) ∷ []) []
