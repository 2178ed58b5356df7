-- Request #107, in one statement: each of its numbers, each bound, and what a builder gets wrong.
use Rattle.std.specs.Prelude.{◌≡◌, ◌∷◌, ◌++◌}
use Rattle.definitions.specs.Basics.{ℕ, refl, Option, none, some, List, [], map, length, replicate, below}
use Rattle.definitions.specs.Syntax.{Patient, Table, Region}
use Rattle.definitions.specs.Questions.{ancestors, check_of}
use Rattle.definitions.specs.Writer.{region_from, WriteOutcome}
use Rattle.definitions.specs.Parents.{parents_made, with_parents, parents_file, parents_outcome}
use Rattle.definitions.specs.Boundary.{WriteCall, parents_call}
use Rattle.definitions.specs.Computing.{everything}
use Rattle.definitions.specs.Examples.{text_of, paper_file, patient, fixed, root, table, to_write, file_of, lent, wrote, over_one_and_two, one_entry}
use Rattle.definitions.specs.Cases.{eight}

-- So many patients, and tables over these members; the parents that are made of them.
abbrev sharing : ℕ → List (List ℕ) → Region
sharing n groups = to_write 1 (replicate n root) (map (λ members. table members []) groups)

abbrev made : ℕ → List (List ℕ) → List (Option ℕ)
made n groups = parents_made (sharing n groups)

-- Two patients who differ in every field, with these parents, and a table over both. (It forbids the second's fixed bed.)
abbrev with_these : Option ℕ → Option ℕ → List ℕ
with_these p q = file_of 5 (patient 3 1 p ∷ fixed 4 2 q 1 ∷ []) (table (0 ∷ 1 ∷ []) (some 6 ∷ none ∷ []) ∷ [])

-- A parent that no patient is, and one that is the patient: 87 bytes. With the parents that are made it has 81.
abbrev wrong_parents : List ℕ
wrong_parents = with_these (some 9_999_999) (some 1)

abbrev right_parents : List ℕ
right_parents = with_these none (some 0)

-- A file of 171 bytes whose sum is 9,999. With a parent the sum has a digit more.
abbrev sum_grows : List ℕ
sum_grows = file_of 4 (replicate 6 root) (table (0 ∷ 1 ∷ []) (some 500_000 ∷ []) ∷ table (0 ∷ []) (some 0 ∷ []) ∷ [])

-- What is made of a file that check refuses with 10.
abbrev siblings_made : List ℕ
siblings_made = file_of 1 (root ∷ root ∷ patient 0 1 (some 1) ∷ []) (table (1 ∷ 2 ∷ []) (some 0 ∷ []) ∷ [])

-- One patient who is the parent of itself, with so many beds and a fixed one, and tables.
abbrev own_parent : ℕ → ℕ → List Table → List ℕ
own_parent d b ts = file_of 1 (fixed 0 d (some 0) b ∷ []) ts

abbrev refused : ℕ → List ℕ → WriteOutcome
refused q output = record { number = q; count = 0; output = output }

-- (That a file is too long is handed in: 65,536 bytes take long to count.)
pub record MadeParents : Type 0 where
  pub no_tables : made 2 [] ≡ none ∷ none ∷ []
  pub single_members : made 2 ((0 ∷ []) ∷ (1 ∷ []) ∷ []) ≡ none ∷ none ∷ []
  pub four_members : made 5 ((0 ∷ 1 ∷ 3 ∷ 4 ∷ []) ∷ []) ≡ none ∷ some 0 ∷ none ∷ some 1 ∷ some 3 ∷ []
  pub any_order : made 2 ((1 ∷ 0 ∷ []) ∷ []) ≡ none ∷ some 0 ∷ []
  pub apart : made 4 ((0 ∷ 1 ∷ []) ∷ (2 ∷ 3 ∷ []) ∷ []) ≡ none ∷ some 0 ∷ none ∷ some 2 ∷ []
  pub children : made 3 ((0 ∷ 1 ∷ []) ∷ (0 ∷ 2 ∷ []) ∷ []) ≡ none ∷ some 0 ∷ some 0 ∷ []
  pub become_neighbours : made 4 ((0 ∷ 3 ∷ []) ∷ (1 ∷ 3 ∷ []) ∷ (2 ∷ 3 ∷ []) ∷ []) ≡ none ∷ some 0 ∷ some 1 ∷ some 2 ∷ []
  pub passed_on : made 6 ((0 ∷ 5 ∷ []) ∷ (3 ∷ 5 ∷ []) ∷ (2 ∷ 3 ∷ []) ∷ (1 ∷ 2 ∷ []) ∷ []) ≡ none ∷ some 0 ∷ some 1 ∷ some 2 ∷ none ∷ some 3 ∷ []
  pub ancestors_made :
      (let r = sharing 4 ((0 ∷ 1 ∷ []) ∷ (0 ∷ 3 ∷ []) ∷ (1 ∷ 2 ∷ []) ∷ []) in map (ancestors (with_parents r (parents_made r))) (below 4))
      ≡ [] ∷ (0 ∷ []) ∷ (1 ∷ 0 ∷ []) ∷ (0 ∷ []) ∷ []
  pub other_choice :
      with_parents (to_write 5 (patient 3 1 (some 2) ∷ fixed 4 2 none 1 ∷ patient 0 1 (some 1) ∷ []) (table (0 ∷ []) (some 6 ∷ []) ∷ [])) (none ∷ some 0 ∷ [])
      ≡ region_from 5 (patient 3 1 none ∷ fixed 4 2 (some 0) 1 ∷ root ∷ []) (table (0 ∷ []) (some 6 ∷ []) ∷ [])
  pub right_stays : parents_file paper_file ≡ paper_file
  pub later_or_none : parents_file (with_these (some 1) none) ≡ right_parents
  pub written : parents_outcome wrong_parents (lent 85) ≡ wrote right_parents 4
  pub ten_not_asked : parents_outcome (over_one_and_two 0) (lent 97) ≡ wrote siblings_made 0
  pub passes_ten : check_of siblings_made ≡ 0
  pub number1 : (file : List ℕ) → length file ≡ 65_536 → parents_outcome file (lent 5) ≡ refused 1 (lent 5)
  pub numbers :
      map (λ file. parents_outcome file (lent 60)) (
      [] ∷ text_of ("(region 33 0 1)" ∷ "(end 0)" ∷ []) ∷ text_of ("(region 0 0 1)" ∷ "(end 0)" ∷ []) ∷ text_of ("(region 0 0 1)" ∷ "(end 976)" ∷ [])
      ∷ file_of 1 (patient 16 1 none ∷ []) [] ∷ own_parent 17 0 [] ∷ own_parent 1 1 [] ∷ own_parent 1 0 (table (1 ∷ []) (some 0 ∷ []) ∷ [])
      ∷ own_parent 2 0 (table (0 ∷ []) (some 0 ∷ []) ∷ []) ∷ own_parent 1 0 (table (0 ∷ []) (some 1_000_001 ∷ []) ∷ []) ∷ [])
      ≡ map (λ q. refused q (lent 60)) (2 ∷ 3 ∷ 4 ∷ 5 ∷ 6 ∷ 6 ∷ 6 ∷ 7 ∷ 8 ∷ 9 ∷ [])
  pub number15 : parents_outcome wrong_parents (lent 80) ≡ refused 15 (lent 80)
  pub longer_than_read : (parents_outcome sum_grows (lent 171)).number ≡ 15
  pub nine_first : parents_outcome (one_entry 1_000_001) [] ≡ refused 9 []
  pub called : parents_call wrong_parents (lent 81) (lent 9) ≡ record { number = 0; output = right_parents; result = eight 81 ++ lent 1 }
  pub called_short : parents_call wrong_parents (lent 80) (lent 8) ≡ record { number = 15; output = lent 80; result = eight 0 }
  pub called_short_result : parents_call wrong_parents (lent 80) (lent 7) ≡ record { number = 12; output = lent 80; result = lent 7 }
  pub called_nine_first : parents_call (one_entry 1_000_001) [] (lent 7) ≡ record { number = 9; output = []; result = lent 7 }
  pub called_two : parents_call [] (lent 5) [] ≡ record { number = 2; output = lent 5; result = [] }

pub made_parents : MadeParents
unfolding everything lent
made_parents = record {
  no_tables = refl;
  single_members = refl;
  four_members = refl;
  any_order = refl;
  apart = refl;
  children = refl;
  become_neighbours = refl;
  passed_on = refl;
  ancestors_made = refl;
  other_choice = refl;
  right_stays = refl;
  later_or_none = refl;
  written = refl;
  ten_not_asked = refl;
  passes_ten = refl;
  number1 = λ file long. simp long;
  numbers = refl;
  number15 = refl;
  longer_than_read = refl;
  nine_first = refl;
  called = refl;
  called_short = refl;
  called_short_result = refl;
  called_nine_first = refl;
  called_two = refl;
}
