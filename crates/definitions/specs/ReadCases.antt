-- The call of read, in one statement: each of its numbers, each bound, and what a builder gets wrong.
use Rattle.std.specs.Prelude.{◌≡◌, ◌∷◌, ◌++◌}
use Rattle.definitions.specs.Basics.{ℕ, refl, none, some, List, [], map, flat_map, length, replicate, below}
use Rattle.definitions.specs.Boundary.{ReadCall, read_call, write_call}
use Rattle.definitions.specs.Computing.{everything}
use Rattle.definitions.specs.Examples.{text_of, patient, fixed, root, table, file_of, lent, cleared, over_one_and_two, one_entry}
use Rattle.definitions.specs.Cases.{eight}

-- None, in eight bytes.
abbrev absent : List ℕ
absent = replicate 8 255

-- Three patients and two tables that differ in every field: 96, 96 and 72 bytes.
abbrev several : List ℕ
several =
    file_of 5 (patient 3 2 none ∷ fixed 4 3 (some 0) 2 ∷ patient 0 1 (some 1) ∷ [])
    (table (0 ∷ 1 ∷ 2 ∷ []) (some 6 ∷ none ∷ some 1 ∷ some 0 ∷ some 8 ∷ some 7 ∷ []) ∷ table (1 ∷ []) (some 2 ∷ some 3 ∷ none ∷ []) ∷ [])

abbrev patients_of_several : List ℕ
patients_of_several =
    (eight 3 ++ eight 2 ++ absent ++ absent)
    ++ (eight 4 ++ eight 3 ++ eight 0 ++ eight 2)
    ++ (eight 0 ++ eight 1 ++ eight 1 ++ absent)

abbrev tables_of_several : List ℕ
tables_of_several =
    (eight 3 ++ eight 0 ++ eight 1 ++ eight 2 ++ eight 0 ++ eight 6)
    ++ (eight 1 ++ eight 1 ++ eight 0 ++ eight 0 ++ eight 0 ++ eight 3)

abbrev entries_of_several : List ℕ
entries_of_several = (eight 6 ++ absent ++ eight 1 ++ eight 0 ++ eight 8 ++ eight 7) ++ (eight 2 ++ eight 3 ++ absent)

-- The number for areas of these lengths; what a refusal leaves of areas of five bytes and of a result area.
abbrev number_for : ℕ → ℕ → ℕ → ℕ → ℕ
number_for p t e n = (read_call several (lent p) (lent t) (lent e) (lent n)).number

abbrev refused : ℕ → List ℕ → ReadCall
refused q result = record { number = q; patients = lent 5; tables = lent 5; entries = lent 5; result = result }

-- Four patients in a row, one table over all of them; and one patient without tables.
abbrev four_members : List ℕ
four_members = file_of 1 (root ∷ patient 0 1 (some 0) ∷ patient 0 1 (some 1) ∷ patient 0 1 (some 2) ∷ []) (table (0 ∷ 1 ∷ 2 ∷ 3 ∷ []) (some 1_000_000 ∷ []) ∷ [])

abbrev alone : List ℕ
alone = file_of 64 (root ∷ []) []

-- A table with sixteen entries.
abbrev sixteen : List ℕ
sixteen = file_of 1 (patient 0 16 none ∷ []) (table (0 ∷ []) (map some (below 16)) ∷ [])

-- (That a file is too long is handed in: 65,536 bytes take long to count.)
pub record Reads : Type 0 where
  pub read :
      read_call several (lent 97) (lent 98) (lent 99) (lent 33)
      ≡ record {
        number = 0;
        patients = patients_of_several ++ lent 1;
        tables = tables_of_several ++ lent 2;
        entries = entries_of_several ++ lent 27;
        result = (eight 3 ++ eight 2 ++ eight 5 ++ eight 9) ++ lent 1;
      }
  pub table_of_four :
      (read_call four_members (lent 128) (lent 48) (lent 8) (lent 32)).tables
      ≡ eight 4 ++ eight 0 ++ eight 1 ++ eight 2 ++ eight 3 ++ eight 1
  pub largest_entry : (read_call four_members (lent 128) (lent 48) (lent 8) (lent 32)).entries ≡ 64 ∷ 66 ∷ 15 ∷ replicate 5 0
  pub every_entry : (read_call sixteen (lent 32) (lent 48) (lent 128) (lent 32)).entries ≡ flat_map eight (below 16)
  pub no_tables :
      read_call alone (lent 32) [] [] (lent 32)
      ≡ record { number = 0; patients = eight 0 ++ eight 1 ++ absent ++ absent; tables = []; entries = []; result = eight 1 ++ eight 0 ++ eight 64 ++ eight 0 }
  pub just_fits : number_for 96 96 72 32 ≡ 0
  pub one_short : number_for 95 96 72 32 ∷ number_for 96 95 72 32 ∷ number_for 96 96 71 32 ∷ number_for 96 96 72 31 ∷ [] ≡ 12 ∷ 12 ∷ 12 ∷ 12 ∷ []
  pub number12 : read_call several (lent 5) (lent 5) (lent 5) (lent 33) ≡ refused 12 (cleared 32 ++ lent 1)
  pub short_result : read_call several (lent 5) (lent 5) (lent 5) (lent 31) ≡ refused 12 (lent 31)
  pub number1 : (file : List ℕ) → length file ≡ 65_536 → read_call file (lent 5) (lent 5) (lent 5) (lent 5) ≡ refused 1 (lent 5)
  pub numbers :
      map (λ file. read_call file (lent 5) (lent 5) (lent 5) (lent 33)) (
      [] ∷ text_of ("(region 33 0 1)" ∷ "(end 0)" ∷ []) ∷ text_of ("(region 0 0 1)" ∷ "(end 0)" ∷ []) ∷ text_of ("(region 0 0 1)" ∷ "(end 976)" ∷ [])
      ∷ file_of 1 (patient 16 1 none ∷ []) [] ∷ file_of 1 (patient 0 1 (some 0) ∷ []) [] ∷ file_of 1 (root ∷ []) (table (1 ∷ []) (some 0 ∷ []) ∷ [])
      ∷ file_of 1 (root ∷ []) (table (0 ∷ []) (some 0 ∷ some 0 ∷ []) ∷ []) ∷ one_entry 1_000_001 ∷ over_one_and_two 0 ∷ [])
      ≡ map (λ q. refused q (cleared 32 ++ lent 1)) (2 ∷ 3 ∷ 4 ∷ 5 ∷ 6 ∷ 6 ∷ 7 ∷ 8 ∷ 9 ∷ 10 ∷ [])
  pub ten_first : read_call (over_one_and_two 0) [] [] [] [] ≡ record { number = 10; patients = []; tables = []; entries = []; result = [] }
  pub written_back :
      (write_call patients_of_several tables_of_several entries_of_several 5 (lent (length several)) (lent 8)).output ≡ several

pub reads : Reads
unfolding everything lent cleared
reads = record {
  read = refl;
  table_of_four = refl;
  largest_entry = refl;
  every_entry = refl;
  no_tables = refl;
  just_fits = refl;
  one_short = refl;
  number12 = refl;
  short_result = refl;
  number1 = λ file long. simp long;
  numbers = refl;
  ten_first = refl;
  written_back = refl;
}
