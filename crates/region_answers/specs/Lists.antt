-- What list gives of a loaded file.
use Rattle.std.specs.Prelude.{Result, ◌≡◌, ◌++◌}
use Rattle.definitions.specs.Basics.{refl, ℕ, List}
use Rattle.definitions.specs.Syntax as Said
use Rattle.definitions.specs.Plans.{list_of}
use Rattle.definitions.specs.Questions.{entry_asks, region_of, areas_long_enough, asked_by_check, asked_by_list}
use Rattle.definitions.specs.Outcomes.{found_by, list_found, outcome_of, list_outcome}
use Rattle.theorems.proofs.List.{list_first}
use Rattle.answers.specs.declared.ListError.{ListError}
use Rattle.answers.specs.Answers.{listed_outcome}
use Rattle.region_answers.specs.Found.{last_asked, AsksTwelve, asks_twelve}

-- What list gives, of what a held region and its store say, once questions 1 to 10 are answered yes.
abbrev pub RegionListed : Said.Region → List ℕ → List ℕ → List ℕ → Result ℕ ListError → List ℕ → List ℕ → List ℕ → Type 0
RegionListed r beds costs work answer beds_after costs_after work_after =
    listed_outcome answer beds_after costs_after work_after
    ≡ outcome_of (found_by (last_asked r (areas_long_enough r beds costs work)) r.patient_count (list_of r)) beds costs work

-- What list finds, by the answer to 12; and what it gives of a file.
pub list_twelve : (file : List ℕ) → AsksTwelve file (λ long. list_found file (entry_asks (asked_by_list file long)))
unfolding list_found asked_by_list
list_twelve file =
    let r = region_of file in
    asks_twelve file (λ long. entry_asks (asked_by_list file long)) (last_asked r) (λ long. refl) r.patient_count (list_of r) (list_first r).short 11 refl

pub list_outcome_lem : (file beds costs work : List ℕ) → let r = region_of file in
    outcome_of (found_by (asked_by_check file ++ last_asked r (areas_long_enough r beds costs work)) r.patient_count (list_of r)) beds costs work
    ≡ list_outcome file beds costs work
unfolding list_outcome list_found asked_by_list
list_outcome_lem file beds costs work = refl
