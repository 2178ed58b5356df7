-- Beside the starred files, in one statement: an input for each number 1 to 14, what is printed, price, and the calls from C.
use Rattle.std.specs.Prelude.{◌≡◌, ◌∷◌, ◌++◌}
use Rattle.definitions.specs.Basics.{ℕ, refl, true, false, Option, none, some, List, [], length, replicate}
use Rattle.definitions.specs.Syntax.{Region}
use Rattle.definitions.specs.Layout.{layout}
use Rattle.definitions.specs.Spelling.{spell}
use Rattle.definitions.specs.Questions.{work_size, check_of}
use Rattle.definitions.specs.Outcomes.{list_outcome, price_outcome}
use Rattle.definitions.specs.Boundary.{list_call, sheet_call, price_call}
use Rattle.definitions.specs.Output.{printed}
use Rattle.definitions.specs.Computing.{everything}
use Rattle.definitions.specs.Examples.{text_of, paper_file, patient, table, region, file_of, row, lent, cleared, success, refusal, sheet}
use Rattle.definitions.specs.Examples.{two_clinics, over_one_and_two, one_entry, all_forbidden}

-- What the file in the paper says.
abbrev pub paper_region : Region
paper_region = region 3 (patient 0 2 none ∷ patient 0 2 (some 0) ∷ []) (table (0 ∷ []) (some 3 ∷ some 1 ∷ []) ∷ table (0 ∷ 1 ∷ []) (some 0 ∷ some 2 ∷ some 1 ∷ none ∷ []) ∷ []) 5426

-- The paper's first line says one patient more than there are.
abbrev pub one_too_many : List ℕ
one_too_many = spell (record { patient_count = 3; table_count = 2; plans_wanted = 3; patients = paper_region.patients; tables = paper_region.tables; stated_sum = 5427 })

-- A number in eight bytes.
abbrev pub eight : ℕ → List ℕ
eight n = n ∷ replicate 7 0

-- (That a file is too long is handed in: 65,536 bytes take long to count.)
pub record NumbersAndText : Type 0 where
  pub number1 : (file : List ℕ) → length file ≡ 65_536 → check_of file ≡ 1
  pub number2 : check_of [] ≡ 2
  pub number3 : check_of one_too_many ≡ 3
  pub number4 : check_of (spell (region 3 paper_region.patients paper_region.tables 5427)) ≡ 4
  pub number5 : check_of (file_of 65 (patient 0 1 none ∷ []) []) ≡ 5
  pub number6 : check_of (file_of 1 (patient 0 1 (some 0) ∷ []) []) ≡ 6
  pub number7 : check_of (file_of 1 (patient 0 1 none ∷ patient 0 1 (some 0) ∷ []) (table (1 ∷ 0 ∷ []) (some 0 ∷ []) ∷ [])) ≡ 7
  pub number8 : check_of (file_of 1 (patient 0 2 none ∷ []) (table (0 ∷ []) (some 0 ∷ []) ∷ [])) ≡ 8
  pub number9 : check_of (one_entry 1_000_001) ≡ 9
  pub number10 : check_of (over_one_and_two 0) ≡ 10
  pub number11 : sheet paper_file 1 ≡ refusal 11 (lent work_size)
  pub number12 :
      list_outcome paper_file (lent 5) (lent 3) (lent work_size)
      ≡ record { number = 12; rows = 0; beds = lent 5; costs = lent 3; work = lent work_size }
  pub number13 : sheet all_forbidden 0 ≡ refusal 13 (cleared work_size)
  pub number14 : price_outcome paper_file (0 ∷ 2 ∷ []) ≡ record { number = 14; allowed = false; total = 0 }
  pub tree : layout paper_file ≡ some paper_region
  pub spelling : spell paper_region ≡ paper_file
  pub two_sheets :
      printed (two_clinics 2 (some 0 ∷ some 12 ∷ []))
      ≡ text_of ("(list 2)" ∷ "(row 0 (1 0))" ∷ "(row 1 (0 0))" ∷ "(sheet 0 2)" ∷ "(row 0 (1))" ∷ "(row 1 (0))" ∷ "(sheet 1 1)" ∷ "(row 0 (0))" ∷ [])
  pub last_clinic : printed (file_of 1 (patient 15 1 none ∷ []) []) ≡ text_of ("(list 1)" ∷ "(row 0 (0))" ∷ "(sheet 15 1)" ∷ "(row 0 (0))" ∷ [])
  pub refused_text : printed all_forbidden ≡ text_of ("(refused 13)" ∷ [])
  pub allowed_plan : price_outcome paper_file (0 ∷ 1 ∷ []) ≡ record { number = 0; allowed = true; total = 5 }
  pub forbidden_plan : price_outcome paper_file (1 ∷ 1 ∷ []) ≡ record { number = 0; allowed = false; total = 0 }
  pub call_list :
      list_call paper_file (lent 7) (lent 25) (lent 9)
      ≡ record { number = 0; beds = 1 ∷ 0 ∷ 0 ∷ 0 ∷ 0 ∷ 1 ∷ 9 ∷ []; costs = eight 2 ++ eight 3 ++ eight 5 ++ lent 1; result = eight 3 ++ lent 1 }
  pub call_sheet :
      sheet_call (two_clinics 3 (some 0 ∷ some 5 ∷ [])) 0 (lent 6) (lent 24) (lent 8)
      ≡ record { number = 0; beds = 1 ∷ 0 ∷ lent 4; costs = eight 0 ++ eight 1 ++ lent 8; result = eight 2 }
  pub call_refused :
      sheet_call paper_file 1 (lent 7) (lent 25) (lent 9)
      ≡ record { number = 11; beds = lent 7; costs = lent 25; result = eight 0 ++ lent 1 }
  pub call_short_result : list_call paper_file (lent 7) (lent 25) (lent 7) ≡ record { number = 12; beds = lent 7; costs = lent 25; result = lent 7 }
  pub call_short_costs : list_call paper_file (lent 6) (lent 23) (lent 8) ≡ record { number = 12; beds = lent 6; costs = lent 23; result = eight 0 }
  pub call_price : price_call paper_file (0 ∷ 1 ∷ []) (lent 17) ≡ record { number = 0; result = eight 1 ++ eight 5 ++ lent 1 }
  pub call_forbidden : price_call paper_file (1 ∷ 1 ∷ []) (lent 16) ≡ record { number = 0; result = eight 0 ++ eight 0 }
  pub call_price_refused : price_call paper_file (0 ∷ 2 ∷ []) (lent 17) ≡ record { number = 14; result = eight 0 ++ eight 0 ++ lent 1 }
  pub call_price_short_result : price_call paper_file (0 ∷ 2 ∷ []) (lent 15) ≡ record { number = 12; result = lent 15 }
  pub call_bytes : price_call (one_entry 1_000_000) (0 ∷ []) (lent 16) ≡ record { number = 0; result = eight 1 ++ 64 ∷ 66 ∷ 15 ∷ replicate 5 0 }

pub numbers_and_text : NumbersAndText
unfolding everything lent cleared
numbers_and_text = record {
  number1 = λ file long. simp long;
  number2 = refl;
  number3 = refl;
  number4 = refl;
  number5 = refl;
  number6 = refl;
  number7 = refl;
  number8 = refl;
  number9 = refl;
  number10 = refl;
  number11 = refl;
  number12 = refl;
  number13 = refl;
  number14 = refl;
  tree = refl;
  spelling = refl;
  two_sheets = refl;
  last_clinic = refl;
  refused_text = refl;
  allowed_plan = refl;
  forbidden_plan = refl;
  call_list = refl;
  call_sheet = refl;
  call_refused = refl;
  call_short_result = refl;
  call_short_costs = refl;
  call_price = refl;
  call_forbidden = refl;
  call_price_refused = refl;
  call_price_short_result = refl;
  call_bytes = refl;
}
