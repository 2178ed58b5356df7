-- For each landed request of document 02, in one statement: each of its numbers, each bound, and what a builder gets wrong.
use Prim.Native.String.{String}
use Rattle.std.proofs.Common.{ap, ◌+◌, ◌-◌, ◌^◌, ◌≡◌, ◌∷◌, ◌++◌}
use Rattle.definitions.specs.Basics.{ℕ, refl, true, false, cond, eqb, Option, none, some, List, [], map, flatten, flat_map, length, replicate, text, below, numbers_from, sum}
use Rattle.definitions.specs.Syntax.{Patient, Table, Region, fixed_beds, patients_of}
use Rattle.definitions.specs.Layout.{layout}
use Rattle.definitions.specs.Plans.{Row, place_in, stride, entry_for, constraints, list_of}
use Rattle.definitions.specs.Questions.{plan_allowed, region_of, check_of}
use Rattle.definitions.specs.Sheets.{lowest, own_tables, own_cost, sheet_of}
use Rattle.definitions.specs.Outcomes.{price_outcome}
use Rattle.definitions.specs.Writer.{written_file, write_outcome}
use Rattle.definitions.specs.Lookup.{bytes_at, LineOutcome, line_outcome, part_of}
use Rattle.definitions.specs.Joining.{joined_region, clinics_apart, join_within, WhichFile, neither_file, first_file, second_file, JoinOutcome, join_outcome, first_pairs}
use Rattle.definitions.specs.Boundary.{bytes_of, lent_table_count, PairCall, WriteCall, write_call, line_call, join_call}
use Rattle.definitions.specs.Computing.{everything}
use Rattle.definitions.specs.Examples.{text_of, paper_file, patient, fixed, root, table, region, to_write, file_of, row, lent, cleared, list, refusal, wrote, over_one_and_two, all_forbidden}
use Rattle.definitions.specs.Cases.{paper_region, eight}
use Rattle.definitions.specs.Edges.{clinics_joined, zeros}

-- ---- #101: the writer

-- The number for an area that is long enough.
abbrev write_number : ℕ → List Patient → List Table → ℕ
write_number m ps ts = (write_outcome (to_write m ps ts) (lent 200)).number

-- Numbers in an area of eight bytes each; the one that stands for none.
abbrev area : List ℕ → List ℕ
area ns = flat_map (bytes_of 8) ns

abbrev absent : ℕ
absent = 2 ^ 64 - 1

-- One patient with one bed, and a table with one entry over that patient, as they are lent.
abbrev one : List ℕ
one = 0 ∷ 1 ∷ absent ∷ absent ∷ []

abbrev over : List ℕ
over = 1 ∷ 0 ∷ 0 ∷ 0 ∷ 0 ∷ 1 ∷ []

-- The paper's region, lent by a C program, where these are the patients.
abbrev lent_with : List ℕ → List ℕ → List ℕ → WriteCall
lent_with patients output result =
    write_call (area patients) (area (1 ∷ 0 ∷ 9 ∷ 9 ∷ 9 ∷ 2 ∷ 2 ∷ 0 ∷ 1 ∷ 9 ∷ 9 ∷ 4 ∷ [])) (area (3 ∷ 1 ∷ 0 ∷ 2 ∷ 1 ∷ absent ∷ [])) 3 output result

-- With its own patients, both free.
abbrev lent_paper : List ℕ → List ℕ → WriteCall
lent_paper = lent_with (0 ∷ 2 ∷ absent ∷ absent ∷ 0 ∷ 2 ∷ 0 ∷ absent ∷ [])

-- The number of the call for areas that hold these numbers.
abbrev call_number : List ℕ → List ℕ → List ℕ → ℕ → ℕ
call_number ps ts es m = (write_call (area ps) (area ts) (area es) m (lent 200) (lent 8)).number

pub record Saving : Type 0 where
  pub paper_written : write_outcome paper_region (lent 103) ≡ wrote paper_file 1
  pub own_counts : write_outcome (to_write 3 paper_region.patients paper_region.tables) (lent 103) ≡ wrote paper_file 1
  pub read_back : layout (written_file (to_write 3 paper_region.patients paper_region.tables)) ≡ some paper_region
  pub written_back : written_file (region_of paper_file) ≡ paper_file
  pub just_fits : write_outcome paper_region (lent 102) ≡ wrote paper_file 0
  pub number15 : write_outcome paper_region (lent 101) ≡ record { number = 15; count = 0; output = lent 101 }
  pub number5 : write_outcome (to_write 1 [] []) (lent 50) ≡ record { number = 5; count = 0; output = lent 50 }
  pub no_plans : map (λ m. write_number m (root ∷ []) []) (0 ∷ 1 ∷ 64 ∷ 65 ∷ []) ≡ 5 ∷ 0 ∷ 0 ∷ 5 ∷ []
  pub number6 : map (λ p. write_number 1 (p ∷ []) []) (patient 16 1 none ∷ patient 0 17 none ∷ patient 0 1 (some 0) ∷ []) ≡ 6 ∷ 6 ∷ 6 ∷ []
  pub number7 : map (λ ms. write_number 1 (root ∷ []) (table ms (some 0 ∷ []) ∷ [])) ([] ∷ (1 ∷ []) ∷ (0 ∷ 0 ∷ 0 ∷ 0 ∷ 0 ∷ []) ∷ []) ≡ 7 ∷ 7 ∷ 7 ∷ []
  pub number8 : map (λ es. write_number 1 (root ∷ []) (table (0 ∷ []) es ∷ [])) ([] ∷ (some 0 ∷ []) ∷ (some 0 ∷ some 0 ∷ []) ∷ []) ≡ 8 ∷ 0 ∷ 8 ∷ []
  pub number9 : map (λ e. write_number 1 (root ∷ []) (table (0 ∷ []) (e ∷ []) ∷ [])) (some 1_000_000 ∷ some 1_000_001 ∷ some 0xffff_ffff ∷ none ∷ []) ≡ 0 ∷ 9 ∷ 9 ∷ 0 ∷ []
  pub number10 : write_number 1 (root ∷ root ∷ []) (table (0 ∷ 1 ∷ []) (some 0 ∷ []) ∷ []) ≡ 10
  pub ten_first : (write_outcome (to_write 1 (root ∷ root ∷ []) (table (0 ∷ 1 ∷ []) (some 0 ∷ []) ∷ [])) []).number ≡ 10
  pub called : lent_paper (lent 103) (lent 9) ≡ record { number = 0; output = paper_file ++ lent 1; result = eight 102 ++ lent 1 }
  pub called_short : lent_paper (lent 101) (lent 9) ≡ record { number = 15; output = lent 101; result = eight 0 ++ lent 1 }
  pub called_short_result : lent_paper (lent 101) (lent 7) ≡ record { number = 12; output = lent 101; result = lent 7 }
  pub called_two_first : call_number (0 ∷ 1 ∷ absent ∷ []) [] [] 0 ≡ 2
  pub called_ten_first : (write_call (area (one ++ one)) (area (2 ∷ 0 ∷ 1 ∷ 0 ∷ 0 ∷ 1 ∷ [])) (area (0 ∷ [])) 1 [] []).number ≡ 10
  pub whole_patients : map (λ extra. (write_call (area one ++ lent extra) [] [] 1 (lent 200) (lent 8)).number) (0 ∷ 1 ∷ 8 ∷ 16 ∷ 24 ∷ []) ≡ 0 ∷ 2 ∷ 2 ∷ 2 ∷ 2 ∷ []
  pub whole_tables : map (λ extra. (write_call (area one) (lent extra) [] 1 (lent 200) (lent 8)).number) (0 ∷ 1 ∷ 8 ∷ 40 ∷ []) ≡ 0 ∷ 2 ∷ 2 ∷ 2 ∷ []
  pub whole_entries : map (λ extra. (write_call (area one) (area over) (area (5 ∷ []) ++ lent extra) 1 (lent 200) (lent 8)).number) (0 ∷ 1 ∷ 8 ∷ []) ≡ 0 ∷ 2 ∷ 2 ∷ []
  pub no_entries : call_number one over [] 1 ≡ 2
  pub counts_do_not_wrap : call_number one (1 ∷ 0 ∷ 0 ∷ 0 ∷ 0 ∷ (2 ^ 63) ∷ 1 ∷ 0 ∷ 0 ∷ 0 ∷ 0 ∷ (2 ^ 63) ∷ []) [] 1 ≡ 2
  pub second_table : call_number (0 ∷ 2 ∷ absent ∷ absent ∷ []) (1 ∷ 0 ∷ 0 ∷ 0 ∷ 0 ∷ 2 ∷ 1 ∷ 0 ∷ 0 ∷ 0 ∷ 0 ∷ 2 ∷ []) (1 ∷ 2 ∷ 3 ∷ 4 ∷ []) 1 ≡ 0
  pub most_patients : map (λ n. call_number (flatten (replicate n one)) [] [] 1) (32 ∷ 33 ∷ []) ≡ 15 ∷ 5 ∷ []
  pub table_counts : map (λ n. lent_table_count (lent n)) (2255 ∷ 2256 ∷ []) ≡ 46 ∷ 47 ∷ []
  pub five_members : call_number one (5 ∷ 0 ∷ 0 ∷ 0 ∷ 0 ∷ 1 ∷ []) (5 ∷ []) 1 ≡ 7
  pub large_plans : map (call_number one [] []) ((2 ^ 32 + 1) ∷ absent ∷ []) ≡ 5 ∷ 5 ∷ []
  pub large_clinic : map (λ n. call_number (n ∷ 1 ∷ absent ∷ absent ∷ []) [] [] 1) ((2 ^ 32) ∷ absent ∷ []) ≡ 6 ∷ 6 ∷ []
  pub large_bed_count : map (λ n. call_number (0 ∷ n ∷ absent ∷ absent ∷ []) [] [] 1) ((2 ^ 32 + 1) ∷ absent ∷ []) ≡ 6 ∷ 6 ∷ []
  pub large_parent : map (λ n. call_number (one ++ 0 ∷ 1 ∷ n ∷ absent ∷ []) [] [] 1) (0 ∷ (2 ^ 32 - 1) ∷ (2 ^ 32) ∷ (absent - 1) ∷ absent ∷ []) ≡ 0 ∷ 6 ∷ 6 ∷ 6 ∷ 0 ∷ []
  pub large_member : map (λ n. call_number one (1 ∷ n ∷ 0 ∷ 0 ∷ 0 ∷ 1 ∷ []) (5 ∷ []) 1) (0 ∷ (2 ^ 32) ∷ absent ∷ []) ≡ 0 ∷ 7 ∷ 7 ∷ []
  pub large_entry : map (λ n. call_number one over (n ∷ []) 1) ((2 ^ 32 - 1) ∷ (2 ^ 32) ∷ (absent - 1) ∷ absent ∷ []) ≡ 9 ∷ 9 ∷ 9 ∷ 0 ∷ []

pub saving : Saving
unfolding everything lent
saving = record {
  paper_written = refl;
  own_counts = refl;
  read_back = refl;
  written_back = refl;
  just_fits = refl;
  number15 = refl;
  number5 = refl;
  no_plans = refl;
  number6 = refl;
  number7 = refl;
  number8 = refl;
  number9 = refl;
  number10 = refl;
  ten_first = refl;
  called = refl;
  called_short = refl;
  called_short_result = refl;
  called_two_first = refl;
  called_ten_first = refl;
  whole_patients = refl;
  whole_tables = refl;
  whole_entries = refl;
  no_entries = refl;
  counts_do_not_wrap = refl;
  second_table = refl;
  most_patients = refl;
  table_counts = refl;
  five_members = refl;
  large_plans = refl;
  large_clinic = refl;
  large_bed_count = refl;
  large_parent = refl;
  large_member = refl;
  large_entry = refl;
}

-- ---- #102: a fixed bed

-- The paper's file, where these are the patients.
abbrev staying : List Patient → List ℕ
staying ps = file_of 3 ps paper_region.tables

abbrev child : Patient
child = patient 0 2 (some 0)

-- Patient 0 keeps bed 0, the dearer one; patient 1 keeps bed 1.
abbrev first_stays : List ℕ
first_stays = staying (fixed 0 2 none 0 ∷ child ∷ [])

abbrev second_stays : List ℕ
second_stays = staying (patient 0 2 none ∷ fixed 0 2 (some 0) 1 ∷ [])

-- Two clinics with two patients each; these are the ones of clinic 0. Its fixed beds.
abbrev fixed_in : Patient → Patient → List (Option ℕ)
fixed_in a b = let r = region_of (file_of 1 (a ∷ patient 1 2 none ∷ b ∷ fixed 1 2 none 1 ∷ []) []) in fixed_beds r (patients_of r 0)

pub record FixedBeds : Type 0 where
  pub written : written_file (region_of first_stays) ≡ first_stays
  pub first_list : list_of (region_of first_stays) ≡ row 3 (0 ∷ 0 ∷ []) ∷ row 5 (0 ∷ 1 ∷ []) ∷ []
  pub second_list : list_of (region_of second_stays) ≡ row 5 (0 ∷ 1 ∷ []) ∷ []
  pub both_list : list_of (region_of (staying (fixed 0 2 none 0 ∷ fixed 0 2 (some 0) 0 ∷ []))) ≡ row 3 (0 ∷ 0 ∷ []) ∷ []
  pub first_sheet : sheet_of (region_of first_stays) 0 ≡ row 3 (0 ∷ 0 ∷ []) ∷ row 5 (0 ∷ 1 ∷ []) ∷ []
  pub kept : price_outcome first_stays (0 ∷ 1 ∷ []) ≡ record { number = 0; allowed = true; total = 5 }
  pub moved : price_outcome first_stays (1 ∷ 0 ∷ []) ≡ record { number = 0; allowed = false; total = 0 }
  pub no_such_bed : price_outcome first_stays (2 ∷ 0 ∷ []) ≡ record { number = 14; allowed = false; total = 0 }
  pub only_forbidden : list (staying (fixed 0 2 none 1 ∷ fixed 0 2 (some 0) 1 ∷ [])) ≡ refusal 13 (cleared 16_384)
  pub no_table : list_of (region_of (file_of 9 (fixed 0 3 none 2 ∷ patient 0 2 none ∷ []) [])) ≡ row 0 (2 ∷ 0 ∷ []) ∷ row 0 (2 ∷ 1 ∷ []) ∷ []
  pub number6 : map (λ b. check_of (staying (fixed 0 2 none b ∷ child ∷ []))) (1 ∷ 2 ∷ []) ≡ 0 ∷ 6 ∷ []
  pub own_tables : (region_of first_stays).tables ≡ paper_region.tables
  pub one_more : constraints (region_of first_stays) ≡ paper_region.tables ++ table (0 ∷ []) (some 0 ∷ none ∷ []) ∷ []
  pub fourth_fields : fixed_in (patient 0 2 none) (fixed 0 2 none 1) ∷ fixed_in (fixed 0 2 none 0) (patient 0 2 none) ∷ [] ≡ (none ∷ some 1 ∷ []) ∷ (some 0 ∷ none ∷ []) ∷ []
  pub lent_fixed : (lent_with (0 ∷ 2 ∷ absent ∷ 0 ∷ 0 ∷ 2 ∷ 0 ∷ absent ∷ []) (lent 102) (lent 8)).output ≡ first_stays
  pub large_fixed : map (λ n. call_number (0 ∷ 1 ∷ absent ∷ n ∷ []) [] [] 1) (0 ∷ 1 ∷ (2 ^ 32 - 1) ∷ (2 ^ 32) ∷ (absent - 1) ∷ absent ∷ []) ≡ 0 ∷ 6 ∷ 6 ∷ 6 ∷ 6 ∷ 0 ∷ []

pub stays_put : FixedBeds
unfolding everything lent cleared
stays_put = record {
  written = refl;
  first_list = refl;
  second_list = refl;
  both_list = refl;
  first_sheet = refl;
  kept = refl;
  moved = refl;
  no_such_bed = refl;
  only_forbidden = refl;
  no_table = refl;
  number6 = refl;
  own_tables = refl;
  one_more = refl;
  fourth_fields = refl;
  lent_fixed = refl;
  large_fixed = refl;
}

-- ---- #103: the line over some members

abbrev at : ℕ → ℕ → LineOutcome
at start size = record { number = 0; part = record { start = start; size = size } }

-- A refusal: the empty part at the end of a file of so many bytes.
abbrev no_line : ℕ → ℕ → LineOutcome
no_line q end = record { number = q; part = record { start = end; size = 0 } }

abbrev line : List ℕ → String → LineOutcome
line file typed = line_outcome file (text typed)

-- The bytes of the line.
abbrev read : List ℕ → String → List ℕ
read file typed = bytes_at (line file typed).part file

abbrev line_from_c : List ℕ → String → ℕ → PairCall
line_from_c file typed room = line_call file (text typed) (lent room)

-- Two patients, and tables over (0) with the entries 0 and 1, (0 1), (1), (0 1) again, and (1) again with the same line.
abbrev several_tables : List ℕ
several_tables =
    file_of 1 (patient 0 2 none ∷ patient 0 1 (some 0) ∷ []) (
    table (0 ∷ []) (some 0 ∷ some 1 ∷ []) ∷ table (0 ∷ 1 ∷ []) (some 7 ∷ some 8 ∷ []) ∷ table (1 ∷ []) (some 5 ∷ [])
    ∷ table (0 ∷ 1 ∷ []) (some 3 ∷ some 4 ∷ []) ∷ table (1 ∷ []) (some 5 ∷ []) ∷ [])

pub record FoundLines : Type 0 where
  pub paper_line : line paper_file "(0 1)" ≡ at 68 22
  pub paper_bytes : read paper_file "(0 1)" ≡ text "(cost (0 1) (0 2 1 -))"
  pub other_bytes : read paper_file "(0)" ≡ text "(cost (0) (3 1))"
  pub first_of_two : map (read several_tables) ("(0 1)" ∷ "(1)" ∷ "(0)" ∷ []) ≡ text "(cost (0 1) (7 8))" ∷ text "(cost (1) (5))" ∷ text "(cost (0) (0 1))" ∷ []
  pub first_of_equal : line several_tables "(1)" ≡ at 87 14
  pub no_such_line :
      map (line paper_file) ("(1)" ∷ "(1 0)" ∷ "(0 0)" ∷ "(0 1 2)" ∷ "(0 1 2 3 4)" ∷ "(32)" ∷ "(9999999)" ∷ []) ≡ replicate 7 (at 102 0)
  pub some_of_the_members : map (line (over_one_and_two 1)) ("(1)" ∷ "(2)" ∷ []) ≡ replicate 2 (at 97 0)
  pub forbidden_entries : read all_forbidden "(0)" ≡ text "(cost (0) (- -))"
  pub number21 :
      map (line paper_file) (
      "" ∷ "(" ∷ "()" ∷ "0 1" ∷ "(0 1" ∷ "0 1)" ∷ "(0  1)" ∷ "( 0 1)" ∷ "(0 1 )" ∷ " (0 1)" ∷ "(0 1) " ∷ "(00)" ∷ "(-)" ∷ "(0,1)" ∷ "(10000000)" ∷ "(0 1)\n"
      ∷ "(0)(1)" ∷ "(cost (0) (3 1))" ∷ [])
      ≡ replicate 18 (no_line 21 102)
  pub ten_first : map (line (over_one_and_two 0)) ("(1 2)" ∷ "" ∷ []) ≡ replicate 2 (no_line 10 97)
  pub refused_file : line (text "(region)") "(0)" ≡ no_line 2 8
  pub in_memory : part_of 5 1000 paper_file (line paper_file "(0)") ≡ record { number = 0; block = 5; place = 1051; size = 16; bytes = text "(cost (0) (3 1))" }
  pub empty_in_memory : part_of 5 1000 paper_file (line paper_file "()") ≡ record { number = 21; block = 5; place = 1102; size = 0; bytes = [] }
  pub called : line_from_c paper_file "(0 1)" 17 ≡ record { number = 0; result = eight 68 ++ eight 22 ++ lent 1 }
  pub called_no_line : line_from_c paper_file "(1)" 16 ≡ record { number = 0; result = eight 102 ++ eight 0 }
  pub called_refused : line_from_c paper_file "(" 17 ≡ record { number = 21; result = eight 0 ++ eight 0 ++ lent 1 }
  pub called_short : line_from_c paper_file "(" 15 ≡ record { number = 12; result = lent 15 }
  pub called_ten_first : line_from_c (over_one_and_two 0) "(" 15 ≡ record { number = 10; result = lent 15 }

pub found_lines : FoundLines
unfolding everything lent cleared
found_lines = record {
  paper_line = refl;
  paper_bytes = refl;
  other_bytes = refl;
  first_of_two = refl;
  first_of_equal = refl;
  no_such_line = refl;
  some_of_the_members = refl;
  forbidden_entries = refl;
  number21 = refl;
  ten_first = refl;
  refused_file = refl;
  in_memory = refl;
  empty_in_memory = refl;
  called = refl;
  called_no_line = refl;
  called_refused = refl;
  called_short = refl;
  called_ten_first = refl;
}

-- ---- #104: a clinic's share

-- The shares of some clinics in each row of the list; those of all clinics, added; and the totals.
abbrev shares : List ℕ → Region → List (List ℕ)
shares clinics r = map (λ w. map (λ c. own_cost r c w) clinics) (list_of r)

abbrev shares_added : Region → List ℕ
shares_added r = map sum (shares (below 16) r)

abbrev totals : Region → List ℕ
totals r = map (λ w. w.cost) (list_of r)

-- The paper's tables, patient 0 at clinic 1, and patient 1 at clinic 0 in a fixed bed.
abbrev one_stays : Region
one_stays = region 3 (patient 1 2 none ∷ fixed 0 2 (some 0) 1 ∷ []) paper_region.tables 0

-- Patients 0, 1 and 2 at these clinics, each the parent of the next, with 1, 2 and 2 beds, and a table over all of them.
abbrev three_joined : ℕ → ℕ → ℕ → Region
three_joined a b c = region 4 (patient a 1 none ∷ patient b 2 (some 0) ∷ patient c 2 (some 1) ∷ []) (table (0 ∷ 1 ∷ 2 ∷ []) (some 4 ∷ some 9 ∷ some 6 ∷ none ∷ []) ∷ []) 0

pub record Shares : Type 0 where
  pub lowest_member : map lowest ((3 ∷ []) ∷ (1 ∷ 2 ∷ []) ∷ (5 ∷ 4 ∷ 8 ∷ []) ∷ (5 ∷ 8 ∷ 4 ∷ []) ∷ []) ≡ 3 ∷ 1 ∷ 4 ∷ 4 ∷ []
  pub joined_tables :
      map (λ c. map (λ t. t.members) (own_tables (clinics_joined 1) c)) (0 ∷ 1 ∷ 2 ∷ [])
      ≡ ((0 ∷ 2 ∷ []) ∷ (0 ∷ 1 ∷ []) ∷ (0 ∷ []) ∷ []) ∷ ((1 ∷ []) ∷ []) ∷ [] ∷ []
  pub joined_shares : shares (0 ∷ 1 ∷ []) (clinics_joined 5) ≡ (3 ∷ 0 ∷ []) ∷ (2 ∷ 3 ∷ []) ∷ (5 ∷ 0 ∷ []) ∷ (6 ∷ 0 ∷ []) ∷ (7 ∷ 0 ∷ []) ∷ []
  pub first_came : sheet_of (clinics_joined 5) 0 ≡ row 3 (1 ∷ 0 ∷ []) ∷ row 2 (0 ∷ 2 ∷ []) ∷ row 5 (1 ∷ 2 ∷ []) ∷ row 6 (1 ∷ 1 ∷ []) ∷ []
  pub lowest_only : map (sheet_of (three_joined 7 2 2)) (2 ∷ 7 ∷ []) ≡ (row 0 (0 ∷ 0 ∷ []) ∷ row 0 (1 ∷ 0 ∷ []) ∷ row 0 (0 ∷ 1 ∷ []) ∷ []) ∷ (row 4 (0 ∷ []) ∷ []) ∷ []
  pub joined_added : shares_added (clinics_joined 12) ≡ totals (clinics_joined 12)
  pub last_clinic : shares_added (three_joined 15 0 0) ≡ 4 ∷ 6 ∷ 9 ∷ []
  pub with_fixed : shares_added one_stays ≡ 5 ∷ []
  pub fixed_beds_for_nobody : own_tables one_stays 0 ≡ []
  pub no_tables : shares_added (region 2 (patient 3 2 none ∷ []) [] 0) ≡ 0 ∷ 0 ∷ []

pub shares_add_up : Shares
unfolding everything
shares_add_up = record {
  lowest_member = refl;
  joined_tables = refl;
  joined_shares = refl;
  first_came = refl;
  lowest_only = refl;
  joined_added = refl {a = 3 ∷ 5 ∷ 5 ∷ 6 ∷ 7 ∷ 8 ∷ 10 ∷ 12 ∷ 14 ∷ 15 ∷ []};
  last_clinic = refl;
  with_fixed = refl;
  fixed_beds_for_nobody = refl;
  no_tables = refl;
}

-- ---- #105: the place of an entry

-- Patients with 2, 3, 4 and 2 beds, and a table over (0 1 3) whose entries are 20, 21 and so on.
abbrev over_three : Table
over_three = table (0 ∷ 1 ∷ 3 ∷ []) (map some (numbers_from 20 12))

abbrev four_patients : Region
four_patients = region 1 (patient 0 2 none ∷ patient 0 3 (some 0) ∷ patient 0 4 (some 1) ∷ patient 0 2 (some 1) ∷ []) (over_three ∷ []) 0

pub record KeptPlaces : Type 0 where
  pub strides : map (stride four_patients over_three.members) (below 5) ≡ 6 ∷ 2 ∷ 0 ∷ 1 ∷ 0 ∷ []
  pub stride_of_all : map (stride four_patients (below 4)) (below 5) ≡ 24 ∷ 8 ∷ 2 ∷ 1 ∷ 0 ∷ []
  pub stride_of_one : map (stride four_patients (2 ∷ [])) (below 4) ≡ 0 ∷ 0 ∷ 1 ∷ 0 ∷ []
  pub no_beds_yet : place_in four_patients [] over_three ≡ 0
  pub walked :
      map (λ plan. place_in four_patients plan over_three) (
      (1 ∷ []) ∷ (1 ∷ 1 ∷ []) ∷ (1 ∷ 2 ∷ []) ∷ (1 ∷ 2 ∷ 3 ∷ []) ∷ (1 ∷ 2 ∷ 3 ∷ 1 ∷ []) ∷ (1 ∷ 0 ∷ 3 ∷ 1 ∷ []) ∷ (0 ∷ 0 ∷ 3 ∷ 1 ∷ []) ∷ [])
      ≡ 6 ∷ 8 ∷ 10 ∷ 10 ∷ 11 ∷ 7 ∷ 1 ∷ []
  pub entries : map (λ plan. entry_for four_patients plan over_three) ([] ∷ (1 ∷ 2 ∷ 3 ∷ 1 ∷ []) ∷ (2 ∷ []) ∷ []) ≡ some 20 ∷ some 31 ∷ none ∷ []

pub kept_places : KeptPlaces
unfolding everything
kept_places = record {
  strides = refl;
  stride_of_all = refl;
  stride_of_one = refl;
  no_beds_yet = refl;
  walked = refl;
  entries = refl;
}

-- ---- #106: two regions joined

-- For m plans: a root of clinic 11 with 2 beds and a child of clinic 12 with 3 beds that keeps bed 1, and a table over both.
abbrev child_keeps_bed : ℕ → Region
child_keeps_bed m =
    region m (patient 11 2 none ∷ fixed 12 3 (some 0) 1 ∷ []) (
    table (0 ∷ 1 ∷ []) (some 1_000_000 ∷ some 1 ∷ none ∷ some 1_000_000 ∷ some 0 ∷ some 94_444 ∷ []) ∷ []) 0

abbrev second : List ℕ
second = written_file (child_keeps_bed 2)

-- The paper's file and this one, joined. (The other way round the sum is 10001, and the file one byte longer.)
abbrev joined_text : List ℕ
joined_text = text_of (
    "(region 4 3 2)" ∷ "(patient 0 2 - -)" ∷ "(patient 0 2 0 -)" ∷ "(patient 11 2 - -)" ∷ "(patient 12 3 2 1)" ∷ "(cost (0) (3 1))" ∷ "(cost (0 1) (0 2 1 -))"
    ∷ "(cost (2 3) (1000000 1 - 1000000 0 94444))" ∷ "(end 9999)" ∷ [])

-- One patient of a clinic, for m plans, and a table of these entries.
abbrev single : ℕ → ℕ → List (Option ℕ) → Region
single m c es = region m (patient c (length es) none ∷ []) (table (0 ∷ []) es ∷ []) 0

-- What two regions list together, and the first m pairs of what each lists.
abbrev list_together : Region → Region → List Row
list_together r s = list_of (joined_region r s)

abbrev pairs_of : ℕ → Region → Region → List Row
pairs_of m r s = first_pairs m (list_of r) (list_of s)

-- Two regions whose pairs have equal totals.
abbrev equal_first : Region
equal_first = single 4 0 (some 1 ∷ some 0 ∷ [])

abbrev equal_second : Region
equal_second = single 5 1 (some 1 ∷ some 0 ∷ some 1 ∷ [])

-- A refusal of join.
abbrev join_refused : ℕ → WhichFile → List ℕ → JoinOutcome
join_refused q which output = record { number = q; which = which; count = 0; output = output }

-- Patients of these clinics.
abbrev at_clinics : List ℕ → Region
at_clinics clinics = region 1 (map (λ c. patient c 1 none) clinics) [] 0

-- So many patients of one clinic; a table over the first so often; a table with so many entries.
abbrev crowd : ℕ → ℕ → Region
crowd c n = at_clinics (replicate n c)

abbrev many_tables : ℕ → ℕ → Region
many_tables c n = region 1 (patient c 1 none ∷ []) (replicate n (table (0 ∷ []) (some 0 ∷ []))) 0

abbrev many_entries : ℕ → ℕ → Region
many_entries c n = region 1 (patient c 1 none ∷ []) (table (0 ∷ []) (zeros n) ∷ []) 0

-- (That a file is too long is handed in: 65,536 bytes take long to count.)
pub record Joins : Type 0 where
  pub joined_paper : join_outcome paper_file second (lent 188) ≡ record { number = 0; which = neither_file; count = 183; output = joined_text ++ lent 5 }
  pub moved_parents :
      (joined_region (crowd 5 1) (clinics_joined 1)).patients ≡ patient 5 1 none ∷ patient 0 2 none ∷ patient 1 2 (some 1) ∷ patient 0 3 (some 2) ∷ []
  pub moved_members :
      map (λ t. t.members) (joined_region (crowd 5 1) (clinics_joined 1)).tables ≡ (1 ∷ 3 ∷ []) ∷ (1 ∷ 2 ∷ []) ∷ (1 ∷ []) ∷ (2 ∷ []) ∷ []
  pub smaller_m : map (λ m. (joined_region (crowd 0 m) (child_keeps_bed m)).plans_wanted) (1 ∷ 2 ∷ []) ≡ 1 ∷ 1 ∷ []
  pub joined_rows : list_together paper_region (child_keeps_bed 2) ≡ row 2 (1 ∷ 0 ∷ 1 ∷ 1 ∷ []) ∷ row 3 (0 ∷ 0 ∷ 1 ∷ 1 ∷ []) ∷ []
  pub joined_pairs : pairs_of 2 paper_region (child_keeps_bed 2) ≡ row 2 (1 ∷ 0 ∷ 1 ∷ 1 ∷ []) ∷ row 3 (0 ∷ 0 ∷ 1 ∷ 1 ∷ []) ∷ []
  pub equal_rows : list_together equal_first equal_second ≡ row 0 (1 ∷ 1 ∷ []) ∷ row 1 (0 ∷ 1 ∷ []) ∷ row 1 (1 ∷ 0 ∷ []) ∷ row 1 (1 ∷ 2 ∷ []) ∷ []
  pub equal_pairs : pairs_of 4 equal_first equal_second ≡ row 0 (1 ∷ 1 ∷ []) ∷ row 1 (0 ∷ 1 ∷ []) ∷ row 1 (1 ∷ 0 ∷ []) ∷ row 1 (1 ∷ 2 ∷ []) ∷ []
  pub unsorted_pairs :
      first_pairs 5 (row 1 (2 ∷ []) ∷ row 1 (0 ∷ []) ∷ row 0 (1 ∷ []) ∷ []) (map (λ b. row 0 (b ∷ [])) (2 ∷ 1 ∷ 0 ∷ []))
      ≡ row 0 (1 ∷ 0 ∷ []) ∷ row 0 (1 ∷ 1 ∷ []) ∷ row 0 (1 ∷ 2 ∷ []) ∷ row 1 (0 ∷ 0 ∷ []) ∷ row 1 (0 ∷ 1 ∷ []) ∷ []
  pub none_written : (join_outcome all_forbidden (written_file (single 1 1 (some 0 ∷ []))) (lent 120)).number ≡ 0
  pub none_allowed :
      map (λ (e : Option ℕ × Option ℕ). plan_allowed (joined_region (single 1 0 (e.0 ∷ [])) (single 1 1 (e.1 ∷ [])))) ((none, some 0) ∷ (some 0, none) ∷ (some 0, some 0) ∷ [])
      ≡ false ∷ false ∷ true ∷ []
  pub first_refused : join_outcome (over_one_and_two 0) [] (lent 5) ≡ join_refused 10 first_file (lent 5)
  pub second_refused : join_outcome paper_file [] (lent 5) ≡ join_refused 2 second_file (lent 5)
  pub second_before16 : join_outcome (over_one_and_two 1) (over_one_and_two 0) [] ≡ join_refused 10 second_file []
  pub first_too_long : (f : List ℕ) → check_of f ≡ 1 → (join_outcome f paper_file []).which ≡ first_file
  pub second_too_long : (g : List ℕ) → check_of g ≡ 1 → (join_outcome paper_file g []).which ≡ second_file
  pub number16 : join_outcome paper_file paper_file (lent 5) ≡ join_refused 16 neither_file (lent 5)
  pub one_in_common :
      map (λ clinics. clinics_apart (at_clinics (2 ∷ 4 ∷ [])) (at_clinics clinics)) (
      (2 ∷ 3 ∷ []) ∷ (3 ∷ 2 ∷ []) ∷ (4 ∷ 3 ∷ []) ∷ (3 ∷ 4 ∷ []) ∷ (3 ∷ 1 ∷ []) ∷ (5 ∷ 3 ∷ []) ∷ [])
      ≡ false ∷ false ∷ false ∷ false ∷ true ∷ true ∷ []
  pub patients17 : map (λ n. join_within (crowd 0 31) (crowd 1 n)) (1 ∷ 2 ∷ []) ≡ true ∷ false ∷ []
  pub tables17 : map (λ n. join_within (many_tables 0 60) (many_tables 1 n)) (4 ∷ 5 ∷ []) ≡ true ∷ false ∷ []
  pub entries17 : map (λ n. join_within (many_entries 0 4_000) (many_entries 1 n)) (96 ∷ 97 ∷ []) ≡ true ∷ false ∷ []
  pub number17 : join_outcome (written_file (crowd 0 16)) (written_file (crowd 1 17)) (lent 5) ≡ join_refused 17 neither_file (lent 5)
  pub in_order : map (λ c. (join_outcome (written_file (crowd 0 17)) (written_file (crowd c 16)) []).number) (0 ∷ 1 ∷ []) ≡ 16 ∷ 17 ∷ []
  pub number15 : join_outcome paper_file second (lent 182) ≡ join_refused 15 neither_file (lent 182)
  pub just_fits : (join_outcome paper_file second (lent 183)).number ≡ 0
  pub called :
      join_call (written_file (at_clinics (0 ∷ []))) (written_file (at_clinics (1 ∷ []))) (lent 65) (lent 17)
      ≡ record { number = 0; output = written_file (at_clinics (0 ∷ 1 ∷ [])) ++ lent 3; result = eight 62 ++ eight 0 ++ lent 1 }
  pub called_first : join_call (over_one_and_two 0) [] (lent 5) (lent 16) ≡ record { number = 10; output = lent 5; result = eight 0 ++ eight 1 }
  pub called_second : join_call paper_file [] (lent 5) (lent 16) ≡ record { number = 2; output = lent 5; result = eight 0 ++ eight 2 }
  pub called_neither : join_call paper_file paper_file (lent 5) (lent 16) ≡ record { number = 16; output = lent 5; result = eight 0 ++ eight 0 }
  pub called_short : join_call paper_file paper_file (lent 5) (lent 15) ≡ record { number = 12; output = lent 5; result = lent 15 }
  pub called_second_first : join_call paper_file [] (lent 5) (lent 15) ≡ record { number = 2; output = lent 5; result = lent 15 }

pub joins_right : Joins
unfolding everything lent cleared zeros
joins_right = record {
  joined_paper = refl;
  moved_parents = refl;
  moved_members = refl;
  smaller_m = refl;
  joined_rows = refl;
  joined_pairs = refl;
  equal_rows = refl;
  equal_pairs = refl;
  unsorted_pairs = refl;
  none_written = refl;
  none_allowed = refl;
  first_refused = refl;
  second_refused = refl;
  second_before16 = refl;
  first_too_long = λ f one. ap (λ q. cond (eqb q 0) neither_file first_file) one;
  second_too_long = λ g one. ap (λ q. cond (eqb q 0) neither_file second_file) one;
  number16 = refl;
  one_in_common = refl;
  patients17 = refl;
  tables17 = refl;
  entries17 = refl;
  number17 = refl;
  in_order = refl;
  number15 = refl;
  just_fits = refl;
  called = refl;
  called_first = refl;
  called_second = refl;
  called_neither = refl;
  called_short = refl;
  called_second_first = refl;
}
