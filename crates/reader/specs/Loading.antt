-- What is read and loaded of a file.
use Rattle.std.proofs.Common.{ap, ◌∙◌, ◌≡◌, ◌++◌}
use Rattle.std.specs.Prelude.{Result, Ok}
use Rattle.std.proofs.Math.Bool.{and-true}
use Rattle.definitions.specs.Basics.{ℕ, Bool, true, false, List, length}
use Rattle.definitions.specs.Questions.{Asked, patients_within, first_no, region_of, asked_of_file, asked_to_nine, asked_by_check, check_of}
use Rattle.definitions.specs.Parents.{asked_to_make}
use Rattle.held_region.specs.declared.Region.{Region}
use Rattle.held_region.specs.declared.Refusal.{Refusal}
use Rattle.held_region.specs.Meaning.{said}
use Rattle.held_region.specs.Refusals.{number_of, asked, last_asked}
use Rattle.held_region.specs.StandsFor.{StandsFor}
use Rattle.layout.specs.declared.Laid.{Laid}

-- Questions 1 to 10 of a file, with or without those of parents.
abbrev pub load_asked : Bool → List ℕ → Asked
load_asked parents s = asked_of_file s ++ asked parents (region_of s)

-- The first no of questions 1 to 4; and where there is none, what is held stands for what the file says, and the store is as long as it was.
pub record FileRead (s : List ℕ) (r : Result Region Refusal) (store : List ℕ) : Type 0 where
  pub number : number_of r ≡ first_no (asked_of_file s)
  pub held : {region : Region} → r ≡ Ok region → (parents : Bool) → StandsFor parents (said region store) (region_of s)
  pub wide : {region : Region} → r ≡ Ok region → length store ≡ 4096

-- The first no of all; and where there is none, the region and the store say what the file says.
pub record LoadedFrom (parents : Bool) (s : List ℕ) (r : Result Region Refusal) (store : List ℕ) : Type 0 where
  pub number : number_of r ≡ first_no (load_asked parents s)
  pub says : {region : Region} → r ≡ Ok region → said region store ≡ region_of s
  pub wide : {region : Region} → r ≡ Ok region → length store ≡ 4096

-- The region of what was laid out.
abbrev pub region_held : Laid → Region
region_held laid = record { v = laid.v; t = laid.t; m = laid.m; patients = laid.patients.first; tables = laid.tables.first }

-- With those of parents they are the questions of check.
pub checks : {s : List ℕ} {r : Result Region Refusal} {store : List ℕ} → LoadedFrom true s r store → number_of r ≡ check_of s
unfolding check_of asked_by_check asked last_asked
checks from = from.number

-- Without them, they are those that are asked to make parents.
pub checks_nine : {s : List ℕ} {r : Result Region Refusal} {store : List ℕ} → LoadedFrom false s r store → number_of r ≡ first_no (asked_to_make s)
unfolding asked last_asked
checks_nine {s} from = from.number ∙ ap (λ six. first_no (asked_of_file s ++ asked_to_nine (region_of s) six)) (and-true (patients_within (region_of s)))
