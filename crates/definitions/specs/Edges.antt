-- Inputs at the edge of each definition: where one bound, operand or case is wrong, one of these statements fails.
use Prim.Native.String.{String}
use Rattle.std.proofs.Common.{arith, ◌≡◌, ◌∷◌, ◌++◌}
use Rattle.std.specs.Prelude.{drop, set}
use Rattle.definitions.specs.Basics.{ℕ, zero, suc, refl, Bool, true, false, Option, none, some, List, [], map}
use Rattle.definitions.specs.Basics.{drop_last, flat_map, length, replicate, get_or, take, text, below, numbers_from}
use Rattle.definitions.specs.Syntax.{Patient, Table, Region}
use Rattle.definitions.specs.Layout.{layout}
use Rattle.definitions.specs.Spelling.{spell, well_formed}
use Rattle.definitions.specs.Plans.{Plan, Row, list_of}
use Rattle.definitions.specs.Questions.{short_enough, sum_true, counts_within, members_right, entry_counts_right, work_size, plan_allowed, region_of, check_of}
use Rattle.definitions.specs.Sheets.{sheet_of}
use Rattle.definitions.specs.Isolation.{yield_number, YieldsList, tables_among, times_in, joins, SameClinic, SameBeginning}
use Rattle.definitions.specs.Outcomes.{ListOutcome, list_outcome, sheet_outcome, PriceOutcome, price_outcome}
use Rattle.definitions.specs.Boundary.{list_call, sheet_call, price_call}
use Rattle.definitions.specs.Output.{printed}
use Rattle.definitions.specs.Computing.{everything}
use Rattle.definitions.specs.Examples.{text_of, paper_file, patient, fixed, table, region, file_of, row, lent, cleared, two_clinics_region}
use Rattle.definitions.specs.Examples.{over_one_and_two, all_forbidden}
use Rattle.definitions.specs.Cases.{paper_region}

-- ---- layout: each of these is the file in the paper with one fault

-- The lines of the paper's file, with another in the place of the i-th; and without it.
abbrev paper_lines : List String
paper_lines = "(region 2 2 3)" ∷ "(patient 0 2 - -)" ∷ "(patient 0 2 0 -)" ∷ "(cost (0) (3 1))" ∷ "(cost (0 1) (0 2 1 -))" ∷ "(end 5426)" ∷ []

abbrev instead : ℕ → List String → List ℕ
instead i ls = text_of (take i paper_lines ++ ls ++ drop (suc i) paper_lines)

abbrev misplaced : List (List ℕ)
misplaced =
    drop_last paper_file ∷ (paper_file ++ 10 ∷ []) ∷ (10 ∷ paper_file) ∷ (32 ∷ paper_file) ∷ flat_map (λ l. text l ++ 13 ∷ 10 ∷ []) paper_lines
    ∷ instead 0 [] ∷ instead 5 [] ∷ instead 5 ("(end 5426)" ∷ "(end 5426)" ∷ []) ∷ instead 5 ("(end 5426)" ∷ "(patient 0 2 0 -)" ∷ [])
    ∷ instead 0 ("(region 2 2 3)" ∷ "(region 2 2 3)" ∷ []) ∷ instead 2 ("(cost (0) (3 1))" ∷ "(patient 0 2 0 -)" ∷ []) ∷ instead 2 ("" ∷ []) ∷ []

abbrev misspelt : List (List ℕ)
misspelt =
    instead 0 ("(region 2 2)" ∷ []) ∷ instead 0 ("(region 2 2 3 4)" ∷ []) ∷ instead 0 ("(region 2 2 -)" ∷ []) ∷ instead 0 ("(region 2 2  3)" ∷ [])
    ∷ instead 0 ("(Region 2 2 3)" ∷ []) ∷ instead 0 ("region 2 2 3" ∷ []) ∷ instead 0 ("(region 2 2 3" ∷ []) ∷ instead 0 ("(region 2 2 3) " ∷ [])
    ∷ instead 1 ("(patient 0 2 -)" ∷ []) ∷ instead 1 ("(patient 0 2)" ∷ []) ∷ instead 1 ("(patient 0 2 - - -)" ∷ []) ∷ instead 1 ("(patient 0 2 - 01)" ∷ [])
    ∷ instead 1 ("(patient 0 2 - )" ∷ []) ∷ instead 1 ("(patient 0 2 - --)" ∷ []) ∷ instead 1 ("(patient 0 2 - 12345678)" ∷ [])
    ∷ instead 1 ("(patient 0 - - -)" ∷ []) ∷ instead 1 ("(patient - 2 - -)" ∷ []) ∷ instead 1 ("(patient 00 2 - -)" ∷ [])
    ∷ instead 1 ("(patient 0 02 - -)" ∷ []) ∷ instead 1 ("(patient 0 2 -- -)" ∷ []) ∷ instead 1 ("(patient 0 2 -1 -)" ∷ []) ∷ instead 1 ("(patient 0 2 12345678 -)" ∷ [])
    ∷ instead 1 ("(patient 0 : - -)" ∷ []) ∷ instead 1 ("(patient 0 / - -)" ∷ []) ∷ instead 1 ("(patient 0 2  -)" ∷ []) ∷ instead 1 ("(patient 0\t2 - -)" ∷ [])
    ∷ instead 3 ("(cost () (3 1))" ∷ []) ∷ instead 3 ("(cost (0) ())" ∷ []) ∷ instead 3 ("(cost (-) (3 1))" ∷ []) ∷ instead 3 ("(cost (0 ) (3 1))" ∷ [])
    ∷ instead 3 ("(cost ( 0) (3 1))" ∷ []) ∷ instead 3 ("(cost (0) (3  1))" ∷ []) ∷ instead 3 ("(cost (0) 3 1)" ∷ []) ∷ instead 3 ("(cost (0)(3 1))" ∷ [])
    ∷ instead 3 ("(cost (0) (3\t1))" ∷ []) ∷ instead 3 ("(cost (0) (3 1)" ∷ []) ∷ instead 3 ("(cost (0) (3 01))" ∷ []) ∷ instead 3 ("(cost (0) (3 (1)))" ∷ []) ∷ instead 3 ("(cost (0) (3 10000000))" ∷ [])
    ∷ instead 5 ("(end 05426)" ∷ []) ∷ instead 5 ("(end -)" ∷ []) ∷ instead 5 ("(end)" ∷ []) ∷ instead 5 ("(end 5426 )" ∷ []) ∷ []

-- ---- the questions: small regions on either side of each bound

-- The region in the paper, stating other counts.
abbrev stating : ℕ → ℕ → Region
stating v t = record { patient_count = v; table_count = t; plans_wanted = 3; patients = paper_region.patients; tables = paper_region.tables; stated_sum = 0 }

-- So many patients with one bed: all roots; each the parent of the next.
abbrev free : ℕ → List Patient
free n = replicate n (patient 0 1 none)

abbrev before : ℕ → Option ℕ
before zero = none
before (suc s) = some s

abbrev chain : ℕ → List Patient
chain n = map (λ s. patient 0 1 (before s)) (below n)

unfoldable pub zeros : ℕ → List (Option ℕ)
zeros n = replicate n (some 0)

-- Three patients with 16 beds and one with 1 bed, each the parent of the next, and tables.
abbrev sixteen : List Table → Region
sixteen ts = region 1 (patient 0 16 none ∷ patient 0 16 (some 0) ∷ patient 0 16 (some 1) ∷ patient 0 1 (some 2) ∷ []) ts 0

-- Lines before the end line whose bytes add up to 65,545, which is 65,521 and 24.
abbrev large_sum : List ℕ
large_sum = replicate 257 255 ++ text "\n(end 0)\n"

-- One table over members with one entry, in a region of so many patients in a chain.
abbrev over : ℕ → List ℕ → List ℕ
over n members = file_of 1 (chain n) (table members (some 0 ∷ []) ∷ [])

-- ---- lists and sheets: clinic 0 has patients 0 and 2, clinic 1 has patient 1, and a table joins 0 and 1

abbrev own_table : Table
own_table = table (0 ∷ 2 ∷ []) (some 4 ∷ none ∷ some 1 ∷ some 0 ∷ some 3 ∷ some 2 ∷ [])

abbrev joined_tables : List Table
joined_tables = own_table ∷ table (0 ∷ 1 ∷ []) (some 5 ∷ some 0 ∷ some 1 ∷ some 7 ∷ []) ∷ table (0 ∷ []) (some 1 ∷ some 2 ∷ []) ∷ table (1 ∷ []) (some 0 ∷ some 3 ∷ []) ∷ []

abbrev joined_patients : List Patient
joined_patients = patient 0 2 none ∷ patient 1 2 (some 0) ∷ patient 0 3 (some 1) ∷ []

abbrev joined : ℕ → List ℕ
joined m = file_of m joined_patients joined_tables

abbrev pub clinics_joined : ℕ → Region
clinics_joined m = region m joined_patients joined_tables 0

-- A table over patients with 2, 3 and 2 beds; its entries are 20, 21 and so on.
abbrev three_members : List ℕ
three_members = file_of 1 (patient 0 2 none ∷ patient 0 3 (some 0) ∷ patient 0 2 (some 1) ∷ []) (table (0 ∷ 1 ∷ 2 ∷ []) (map some (numbers_from 20 12)) ∷ [])

-- List's number, and that of its call from C, for lent areas of these lengths.
abbrev list_number : List ℕ → ℕ → ℕ → ℕ → ℕ
list_number file beds costs work = (list_outcome file (lent beds) (lent costs) (lent work)).number

abbrev call_number : List ℕ → ℕ → ℕ → ℕ → ℕ
call_number file beds costs result = (list_call file (lent beds) (lent costs) (lent result)).number

-- The same of sheet, for clinic 0.
abbrev sheet_number : List ℕ → ℕ → ℕ → ℕ → ℕ
sheet_number file beds costs work = (sheet_outcome file 0 (lent beds) (lent costs) (lent work)).number

abbrev sheet_call_number : List ℕ → ℕ → ℕ → ℕ → ℕ
sheet_call_number file beds costs result = (sheet_call file 0 (lent beds) (lent costs) (lent result)).number

-- A region that says ten numbers, one in each kind of field; ten of the largest, and with a larger one at place i.
abbrev saying : List ℕ → Region
saying ns =
    let n : ℕ → ℕ = λ i. get_or ns i 0 in
    record {
      patient_count = n 0;
      table_count = n 1;
      plans_wanted = n 2;
      patients = fixed (n 3) (n 4) (some (n 5)) (n 6) ∷ [];
      tables = table (n 7 ∷ []) (some (n 8) ∷ []) ∷ [];
      stated_sum = n 9;
    }

abbrev largest : List ℕ
largest = replicate 10 9_999_999

abbrev too_large_at : ℕ → Region
too_large_at i = saying (set largest i 10_000_000)

-- Two regions that differ in m and in a price at clinic 1.
abbrev other_price : ℕ → ℕ → Region
other_price m e = two_clinics_region m (some 0 ∷ some e ∷ [])

-- What is no region file, or only just one. (That a file has 65,535 bytes is handed in.)
pub record Layouts : Type 0 where
  pub faulty_places : map check_of misplaced ≡ replicate (length misplaced) 2
  pub faulty_spellings : map check_of misspelt ≡ replicate (length misspelt) 2
  pub no_lines : check_of (text_of ("(region 0 0 1)" ∷ "(end 976)" ∷ [])) ≡ 5
  pub longest : (file : List ℕ) → length file ≡ 65_535 → short_enough file ≡ true
  pub largest_formed : well_formed (saying largest) ≡ true
  pub largest_read : layout (spell (saying largest)) ≡ some (saying largest)
  pub too_large_formed : map (λ i. well_formed (too_large_at i)) (below 10) ≡ replicate 10 false
  pub too_large_read : map (λ i. check_of (spell (too_large_at i))) (below 10) ≡ replicate 10 2
  pub paper_formed : well_formed paper_region ≡ true
  pub no_members_formed : well_formed (region 1 (free 1) (table [] (zeros 1) ∷ []) 0) ≡ false
  pub no_entries_formed : well_formed (region 1 (free 1) (table (0 ∷ []) [] ∷ []) 0) ≡ false

pub layouts : Layouts
unfolding everything lent cleared zeros
layouts = record {
  faulty_places = refl;
  faulty_spellings = refl;
  no_lines = refl;
  longest = λ file long. simp long;
  largest_formed = refl;
  largest_read = refl;
  too_large_formed = refl;
  too_large_read = refl;
  paper_formed = refl;
  no_members_formed = refl;
  no_entries_formed = refl;
}

-- Questions 3 to 10 on either side of each bound.
pub record Bounds : Type 0 where
  pub sums_wrap : sum_true large_sum (region 1 [] [] 24) ≡ true
  pub sum_not_reduced : sum_true large_sum (region 1 [] [] 65_545) ≡ false
  pub counts : map (λ (c : ℕ × ℕ). check_of (spell (stating c.0 c.1))) ((1, 2) ∷ (3, 2) ∷ (2, 1) ∷ (2, 3) ∷ []) ≡ 3 ∷ 3 ∷ 3 ∷ 3 ∷ []
  pub patients : map (λ n. counts_within (region 1 (free n) [] 0)) (0 ∷ 1 ∷ 32 ∷ 33 ∷ []) ≡ false ∷ true ∷ true ∷ false ∷ []
  pub tables : map (λ n. counts_within (region 1 (free 1) (replicate n (table (0 ∷ []) (some 0 ∷ []))) 0)) (0 ∷ 64 ∷ 65 ∷ []) ≡ true ∷ true ∷ false ∷ []
  pub wanted : map (λ m. check_of (file_of m (free 1) [])) (0 ∷ 1 ∷ 64 ∷ 65 ∷ []) ≡ 5 ∷ 0 ∷ 0 ∷ 5 ∷ []
  pub clinics : map (λ c. check_of (file_of 1 (patient c 1 none ∷ []) [])) (15 ∷ 16 ∷ []) ≡ 0 ∷ 6 ∷ []
  pub bed_counts : map (λ d. check_of (file_of 1 (patient 0 d none ∷ []) [])) (0 ∷ 1 ∷ 16 ∷ 17 ∷ []) ≡ 6 ∷ 0 ∷ 0 ∷ 6 ∷ []
  pub fixed_beds : map (λ b. check_of (file_of 1 (fixed 0 3 none b ∷ []) [])) (0 ∷ 2 ∷ 3 ∷ 4 ∷ []) ≡ 0 ∷ 0 ∷ 6 ∷ 6 ∷ []
  pub parents : map (λ p. check_of (file_of 1 (patient 0 1 none ∷ patient 0 1 (some p) ∷ []) [])) (0 ∷ 1 ∷ 2 ∷ []) ≡ 0 ∷ 6 ∷ 6 ∷ []
  pub member_counts : map (λ ms. check_of (over 5 ms)) ((4 ∷ []) ∷ (0 ∷ 1 ∷ 2 ∷ 3 ∷ []) ∷ (0 ∷ 1 ∷ 2 ∷ 3 ∷ 4 ∷ []) ∷ []) ≡ 0 ∷ 0 ∷ 7 ∷ []
  pub member_order : map (λ ms. check_of (over 5 ms)) ((5 ∷ []) ∷ (0 ∷ 5 ∷ []) ∷ (0 ∷ 0 ∷ []) ∷ (0 ∷ 2 ∷ 1 ∷ []) ∷ (1 ∷ 0 ∷ []) ∷ []) ≡ 7 ∷ 7 ∷ 7 ∷ 7 ∷ 7 ∷ []
  pub no_members : members_right (region 1 (free 1) (table [] (zeros 1) ∷ []) 0) ≡ false
  pub entry_counts : map (λ n. check_of (file_of 1 (patient 0 2 none ∷ []) (table (0 ∷ []) (zeros n) ∷ []))) (1 ∷ 2 ∷ 3 ∷ []) ≡ 8 ∷ 0 ∷ 8 ∷ []
  pub all_entries : entry_counts_right (sixteen (table (0 ∷ 1 ∷ 2 ∷ []) (zeros 4_096) ∷ [])) ≡ true
  pub one_entry_more : entry_counts_right (sixteen (table (0 ∷ 1 ∷ 2 ∷ []) (zeros 4_096) ∷ table (3 ∷ []) (zeros 1) ∷ [])) ≡ false
  pub grandparent : check_of (over 3 (0 ∷ 2 ∷ [])) ≡ 0
  pub unrelated : check_of (file_of 1 (free 2) (table (0 ∷ 1 ∷ []) (some 0 ∷ []) ∷ [])) ≡ 10
  pub last_two_unrelated :
      check_of (file_of 1 (patient 0 1 none ∷ patient 0 1 (some 0) ∷ patient 0 1 (some 0) ∷ []) (table (0 ∷ 1 ∷ 2 ∷ []) (some 0 ∷ []) ∷ []))
      ≡ 10
  pub one_of_two :
      map check_of (
      file_of 1 (patient 0 1 none ∷ patient 16 1 none ∷ []) []
      ∷ file_of 1 (patient 0 1 none ∷ patient 0 0 none ∷ []) []
      ∷ file_of 1 (patient 0 2 none ∷ fixed 0 1 none 1 ∷ []) []
      ∷ file_of 1 (free 1) (table (0 ∷ []) (zeros 1) ∷ table (1 ∷ []) (zeros 1) ∷ [])
      ∷ file_of 1 (free 1) (table (0 ∷ []) (zeros 1) ∷ table (0 ∷ []) (zeros 2) ∷ [])
      ∷ file_of 1 (free 1) (table (0 ∷ []) (zeros 1) ∷ table (0 ∷ []) (some 1_000_001 ∷ []) ∷ [])
      ∷ file_of 1 (patient 0 2 none ∷ []) (table (0 ∷ []) (some 0 ∷ some 1_000_001 ∷ []) ∷ [])
      ∷ file_of 1 (free 2) (table (0 ∷ []) (zeros 1) ∷ table (0 ∷ 1 ∷ []) (zeros 1) ∷ []) ∷ []
      ) ≡ 6 ∷ 6 ∷ 6 ∷ 7 ∷ 8 ∷ 9 ∷ 9 ∷ 10 ∷ []

pub bounds : Bounds
unfolding everything lent cleared zeros
bounds = record {
  sums_wrap = refl;
  sum_not_reduced = refl;
  counts = refl;
  patients = refl;
  tables = refl;
  wanted = refl;
  clinics = refl;
  bed_counts = refl;
  fixed_beds = refl;
  parents = refl;
  member_counts = refl;
  member_order = refl;
  no_members = refl;
  entry_counts = refl;
  all_entries = refl;
  one_entry_more = refl;
  grandparent = refl;
  unrelated = refl;
  last_two_unrelated = refl;
  one_of_two = refl;
}

-- Which of two questions is asked first; lent areas of exactly the length, and one shorter.
pub record Turns : Type 0 where
  pub asked_in_order :
      map check_of (
      spell (record { patient_count = 2; table_count = 0; plans_wanted = 1; patients = free 1; tables = []; stated_sum = 0 })
      ∷ spell (region 65 (free 1) [] 0)
      ∷ file_of 65 (patient 16 1 none ∷ []) []
      ∷ file_of 1 (patient 16 1 none ∷ []) (table (1 ∷ []) (zeros 1) ∷ [])
      ∷ file_of 1 (patient 0 1 (some 0) ∷ []) (table (1 ∷ []) (zeros 1) ∷ [])
      ∷ file_of 1 (free 1) (table (1 ∷ []) (zeros 2) ∷ [])
      ∷ file_of 1 (free 1) (table (0 ∷ []) (some 1_000_001 ∷ some 0 ∷ []) ∷ [])
      ∷ file_of 1 (free 2) (table (0 ∷ 1 ∷ []) (some 1_000_001 ∷ []) ∷ [])
      ∷ file_of 1 (free 1) (table (0 ∷ []) (some 1_000_001 ∷ []) ∷ table (1 ∷ []) (zeros 1) ∷ []) ∷ []
      ) ≡ 3 ∷ 4 ∷ 5 ∷ 6 ∷ 6 ∷ 7 ∷ 8 ∷ 9 ∷ 7 ∷ []
  pub list_ten_first : (list_outcome (over_one_and_two 0) [] [] []).number ≡ 10
  pub sheet_ten_first : (sheet_outcome (over_one_and_two 0) 5 [] [] []).number ≡ 10
  pub sheet_eleven_first : (sheet_outcome paper_file 1 [] [] []).number ≡ 11
  pub sheet_twelve_first : (sheet_outcome all_forbidden 0 [] [] []).number ≡ 12
  pub list_twelve_first : (list_outcome all_forbidden [] [] []).number ≡ 12
  pub price_ten_first : (price_outcome (over_one_and_two 0) []).number ≡ 10
  pub call_ten_first : (price_call (over_one_and_two 0) [] []).number ≡ 10
  pub call_eleven_first : (sheet_call paper_file 1 [] [] []).number ≡ 11
  pub call_twelve_first : (list_call all_forbidden (lent 1) (lent 8) []).number ≡ 12
  pub clinic_not_cut : (sheet_outcome paper_file 256 (lent 6) (lent 3) (lent work_size)).number ≡ 11
  pub areas :
      list_number paper_file 6 3 16_384 ∷ list_number paper_file 5 3 16_384 ∷ list_number paper_file 6 2 16_384 ∷ list_number paper_file 6 3 16_383 ∷ []
      ≡ 0 ∷ 12 ∷ 12 ∷ 12 ∷ []
  pub call_areas :
      call_number paper_file 6 24 8 ∷ call_number paper_file 5 24 8 ∷ call_number paper_file 6 23 8 ∷ call_number paper_file 6 24 7 ∷ []
      ≡ 0 ∷ 12 ∷ 12 ∷ 12 ∷ []
  pub sheet_areas :
      sheet_number paper_file 6 3 16_384 ∷ sheet_number paper_file 5 3 16_384 ∷ sheet_number paper_file 6 2 16_384 ∷ sheet_number paper_file 6 3 16_383 ∷ [] ≡ 0 ∷ 12 ∷ 12 ∷ 12 ∷ []
  pub sheet_call_areas :
      sheet_call_number paper_file 6 24 8 ∷ sheet_call_number paper_file 5 24 8 ∷ sheet_call_number paper_file 6 23 8 ∷ sheet_call_number paper_file 6 24 7 ∷ [] ≡ 0 ∷ 12 ∷ 12 ∷ 12 ∷ []
  pub last_allowed : plan_allowed (region 1 (patient 0 3 none ∷ []) (table (0 ∷ []) (none ∷ none ∷ some 0 ∷ []) ∷ []) 0) ≡ true
  pub longer_work : (list_outcome paper_file (lent 6) (lent 3) (lent 16_390)).work ≡ cleared 16_390
  pub plan_fits :
      map (λ plan. (price_outcome paper_file plan).number) ((0 ∷ []) ∷ (0 ∷ 0 ∷ 0 ∷ []) ∷ (2 ∷ 0 ∷ []) ∷ (1 ∷ 1 ∷ []) ∷ [])
      ≡ 14 ∷ 14 ∷ 14 ∷ 0 ∷ []
  pub empty_text : printed [] ≡ text_of ("(refused 2)" ∷ [])

pub turns : Turns
unfolding everything lent cleared zeros
turns = record {
  asked_in_order = refl;
  list_ten_first = refl;
  sheet_ten_first = refl;
  sheet_eleven_first = refl;
  sheet_twelve_first = refl;
  list_twelve_first = refl;
  price_ten_first = refl;
  call_ten_first = refl;
  call_eleven_first = refl;
  call_twelve_first = refl;
  clinic_not_cut = refl;
  areas = refl;
  call_areas = refl;
  sheet_areas = refl;
  sheet_call_areas = refl;
  last_allowed = refl;
  longer_work = refl;
  plan_fits = refl;
  empty_text = refl;
}

-- Places of entries, lists and sheets with a table that joins, and the words of demand 3.
pub record Rows : Type 0 where
  pub places : map (λ plan. (price_outcome three_members plan).total) ((1 ∷ 2 ∷ 0 ∷ []) ∷ (1 ∷ 0 ∷ 1 ∷ []) ∷ (0 ∷ 2 ∷ 1 ∷ []) ∷ []) ≡ 30 ∷ 27 ∷ 25 ∷ []
  pub joined_list :
      list_of (region_of (joined 5))
      ≡ row 3 (1 ∷ 0 ∷ 0 ∷ []) ∷ row 5 (0 ∷ 1 ∷ 2 ∷ []) ∷ row 5 (1 ∷ 0 ∷ 2 ∷ []) ∷ row 6 (1 ∷ 0 ∷ 1 ∷ []) ∷ row 7 (0 ∷ 0 ∷ 2 ∷ []) ∷ []
  pub joined_sheet :
      sheet_outcome (joined 5) 0 (lent 15) (lent 5) (lent work_size)
      ≡ record { number = 0; rows = 4; beds = 1 ∷ 0 ∷ 0 ∷ 2 ∷ 1 ∷ 2 ∷ 1 ∷ 1 ∷ lent 7; costs = 3 ∷ 2 ∷ 5 ∷ 6 ∷ 9 ∷ []; work = cleared work_size }
  pub other_sheet :
      sheet_outcome (joined 5) 1 (lent 15) (lent 5) (lent work_size)
      ≡ record { number = 0; rows = 2; beds = 0 ∷ 1 ∷ lent 13; costs = 0 ∷ 3 ∷ lent 3; work = cleared work_size }
  pub costs_repeat :
      sheet_of (region_of (file_of 3 (patient 0 2 none ∷ patient 1 1 none ∷ []) (table (0 ∷ []) (some 5 ∷ some 5 ∷ []) ∷ []))) 0
      ≡ row 5 (0 ∷ []) ∷ row 5 (1 ∷ []) ∷ []
  pub by_places :
      map (tables_among (clinics_joined 5)) (0 ∷ 1 ∷ [])
      ≡ (table (0 ∷ 1 ∷ []) own_table.entries ∷ table (0 ∷ []) (some 1 ∷ some 2 ∷ []) ∷ []) ∷ (table (0 ∷ []) (some 0 ∷ some 3 ∷ []) ∷ []) ∷ []
  pub joining_tables : map (joins (clinics_joined 5) 0) joined_tables ≡ false ∷ true ∷ false ∷ false ∷ []
  pub as_often :
      map (times_in (own_table ∷ table (0 ∷ []) (some 0 ∷ []) ∷ own_table ∷ [])) (own_table ∷ table (0 ∷ []) (none ∷ []) ∷ table (1 ∷ []) (some 0 ∷ []) ∷ table (0 ∷ []) (some 0 ∷ []) ∷ table (0 ∷ []) (some 0 ∷ none ∷ []) ∷ [])
      ≡ 2 ∷ 0 ∷ 0 ∷ 1 ∷ 0 ∷ []
  pub other_entry : times_in (table (0 ∷ []) (none ∷ []) ∷ []) (table (0 ∷ []) (some 0 ∷ [])) ≡ 0
  pub paper_yields : YieldsList paper_file
  pub yields : map yield_number (paper_file ∷ all_forbidden ∷ [] ∷ []) ≡ 0 ∷ 13 ∷ 2 ∷ []
  pub same_clinic : SameClinic 0 (other_price 3 5) (other_price 2 0)
  pub same_beginning : SameBeginning (sheet_of (other_price 3 5) 0) (sheet_of (other_price 2 0) 0)

pub rows : Rows
unfolding everything lent cleared zeros
rows = record {
  places = refl;
  joined_list = refl;
  joined_sheet = refl;
  other_sheet = refl;
  costs_repeat = refl;
  by_places = refl;
  joining_tables = refl;
  as_often = refl;
  other_entry = refl;
  paper_yields = refl;
  yields = refl;
  same_clinic = record { beds = refl; fixed = refl; tables = λ t. refl; apart_in_first = refl; apart_in_second = refl };
  same_beginning = record { first_row = omega arith; second_row = omega arith; same_rows = refl {a = row 0 (1 ∷ []) ∷ []} };
}
