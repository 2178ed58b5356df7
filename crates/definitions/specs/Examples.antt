-- The starred files of "Files to try", in one statement about the definitions.
use Prim.Native.String.{String}
use Rattle.std.specs.Prelude.{◌-◌, ◌≡◌, ◌∷◌, ◌++◌}
use Rattle.definitions.specs.Basics.{ℕ, refl, Option, none, some, List, [], map, flat_map, length, replicate, text}
use Rattle.definitions.specs.Syntax.{Patient, Table, Region}
use Rattle.definitions.specs.Spelling.{spell}
use Rattle.definitions.specs.Plans.{Row}
use Rattle.definitions.specs.Questions.{work_size, check_of}
use Rattle.definitions.specs.Outcomes.{ListOutcome, list_outcome, sheet_outcome}
use Rattle.definitions.specs.Writer.{region_from, written_file, WriteOutcome}
use Rattle.definitions.specs.Output.{printed}
use Rattle.definitions.specs.Computing.{everything}

-- Lines of text, each ended by byte 10.
abbrev pub text_of : List String → List ℕ
text_of ls = flat_map (λ l. text l ++ 10 ∷ []) ls

-- The file in the paper, byte by byte.
abbrev pub paper_file : List ℕ
paper_file = text_of ("(region 2 2 3)" ∷ "(patient 0 2 - -)" ∷ "(patient 0 2 0 -)" ∷ "(cost (0) (3 1))" ∷ "(cost (0 1) (0 2 1 -))" ∷ "(end 5426)" ∷ [])

-- The other files are trees that are spelled. A patient is free; or has a fixed bed.
abbrev pub patient : ℕ → ℕ → Option ℕ → Patient
patient c d p = record { clinic = c; bed_count = d; parent = p; fixed_bed = none }

abbrev pub fixed : ℕ → ℕ → Option ℕ → ℕ → Patient
fixed c d p b = record { clinic = c; bed_count = d; parent = p; fixed_bed = some b }

-- Of clinic 0, with one bed and no parent.
abbrev pub root : Patient
root = patient 0 1 none

abbrev pub table : List ℕ → List (Option ℕ) → Table
table ms es = record { members = ms; entries = es }

abbrev pub region : ℕ → List Patient → List Table → ℕ → Region
region m ps ts n = record { patient_count = length ps; table_count = length ts; plans_wanted = m; patients = ps; tables = ts; stated_sum = n }

-- A region to write; its counts and its sum are not the writer's.
abbrev pub to_write : ℕ → List Patient → List Table → Region
to_write m ps ts = record { patient_count = 7; table_count = 7; plans_wanted = m; patients = ps; tables = ts; stated_sum = 7 }

-- The file of m, patients and tables, with the true counts and the true sum.
abbrev pub file_of : ℕ → List Patient → List Table → List ℕ
file_of m ps ts = spell (region_from m ps ts)

abbrev pub row : ℕ → List ℕ → Row
row cost beds = record { cost = cost; beds = beds }

-- Lent areas are filled with 9, to show what is untouched. (Shut, so that no statement is written out.)
unfoldable pub lent : ℕ → List ℕ
lent n = replicate n 9

unfoldable pub cleared : ℕ → List ℕ
cleared n = replicate n 0

-- Number 0 and these rows; a refusal.
abbrev pub success : List Row → ListOutcome
success rows =
    let beds = flat_map (λ w. w.beds) rows in
    record { number = 0; rows = length rows; beds = beds ++ lent (64 - length beds); costs = map (λ w. w.cost) rows ++ lent (64 - length rows); work = cleared work_size }

abbrev pub refusal : ℕ → List ℕ → ListOutcome
refusal q work = record { number = q; rows = 0; beds = lent 64; costs = lent 64; work = work }

-- A file written, and so much of the output area beyond it.
abbrev pub wrote : List ℕ → ℕ → WriteOutcome
wrote file beyond = record { number = 0; count = length file; output = file ++ lent beyond }

abbrev pub list : List ℕ → ListOutcome
list file = list_outcome file (lent 64) (lent 64) (lent work_size)

abbrev pub sheet : List ℕ → ℕ → ListOutcome
sheet file clinic = sheet_outcome file clinic (lent 64) (lent 64) (lent work_size)

-- Patient 0 at clinic 0 and patient 1 at clinic 1, both roots, with 2 beds each, entries (1 0) and those given.
abbrev pub two_clinics_region : ℕ → List (Option ℕ) → Region
two_clinics_region m es = region m (patient 0 2 none ∷ patient 1 2 none ∷ []) (table (0 ∷ []) (some 1 ∷ some 0 ∷ []) ∷ table (1 ∷ []) es ∷ []) 0

abbrev pub two_clinics : ℕ → List (Option ℕ) → List ℕ
two_clinics m es = written_file (two_clinics_region m es)

-- Patient 1 a child of 0, patient 2 a child of the one given, and a table over (1 2).
abbrev pub over_one_and_two : ℕ → List ℕ
over_one_and_two p = file_of 1 (patient 0 1 none ∷ patient 0 1 (some 0) ∷ patient 0 1 (some p) ∷ []) (table (1 ∷ 2 ∷ []) (some 0 ∷ []) ∷ [])

abbrev pub one_entry : ℕ → List ℕ
one_entry e = file_of 1 (patient 0 1 none ∷ []) (table (0 ∷ []) (some e ∷ []) ∷ [])

abbrev pub all_forbidden : List ℕ
all_forbidden = file_of 1 (patient 0 2 none ∷ []) (table (0 ∷ []) (none ∷ none ∷ []) ∷ [])

pub record StarredFiles : Type 0 where
  pub paper : list paper_file ≡ success (row 2 (1 ∷ 0 ∷ []) ∷ row 3 (0 ∷ 0 ∷ []) ∷ row 5 (0 ∷ 1 ∷ []) ∷ [])
  pub paper_sheet : sheet paper_file 0 ≡ success (row 2 (1 ∷ 0 ∷ []) ∷ row 3 (0 ∷ 0 ∷ []) ∷ row 5 (0 ∷ 1 ∷ []) ∷ [])
  pub paper_printed :
      printed paper_file
      ≡ text_of ("(list 3)" ∷ "(row 2 (1 0))" ∷ "(row 3 (0 0))" ∷ "(row 5 (0 1))" ∷ "(sheet 0 3)" ∷ "(row 2 (1 0))" ∷ "(row 3 (0 0))" ∷ "(row 5 (0 1))" ∷ [])
  pub one_bed : list (file_of 64 (patient 0 1 none ∷ []) []) ≡ success (row 0 (0 ∷ []) ∷ [])
  pub equal_costs :
      list (file_of 2 (patient 0 3 none ∷ []) (table (0 ∷ []) (some 5 ∷ some 5 ∷ some 5 ∷ []) ∷ []))
      ≡ success (row 5 (0 ∷ []) ∷ row 5 (1 ∷ []) ∷ [])
  pub both_forbidden : list all_forbidden ≡ refusal 13 (cleared work_size)
  pub no_tables :
      list (file_of 3 (patient 0 2 none ∷ patient 0 2 none ∷ []) [])
      ≡ success (row 0 (0 ∷ 0 ∷ []) ∷ row 0 (0 ∷ 1 ∷ []) ∷ row 0 (1 ∷ 0 ∷ []) ∷ [])
  pub clinics : list (two_clinics 3 (some 0 ∷ some 5 ∷ [])) ≡ success (row 0 (1 ∷ 0 ∷ []) ∷ row 1 (0 ∷ 0 ∷ []) ∷ row 5 (1 ∷ 1 ∷ []) ∷ [])
  pub clinics_sheet : sheet (two_clinics 3 (some 0 ∷ some 5 ∷ [])) 0 ≡ success (row 0 (1 ∷ []) ∷ row 1 (0 ∷ []) ∷ [])
  pub other_prices : list (two_clinics 3 (some 0 ∷ some 0 ∷ [])) ≡ success (row 0 (1 ∷ 0 ∷ []) ∷ row 0 (1 ∷ 1 ∷ []) ∷ row 1 (0 ∷ 0 ∷ []) ∷ [])
  pub other_prices_sheet : sheet (two_clinics 3 (some 0 ∷ some 0 ∷ [])) 0 ≡ success (row 0 (1 ∷ []) ∷ row 1 (0 ∷ []) ∷ [])
  pub fewer_wanted : sheet (two_clinics 2 (some 0 ∷ some 0 ∷ [])) 0 ≡ success (row 0 (1 ∷ []) ∷ [])
  pub siblings : check_of (over_one_and_two 0) ≡ 10
  pub parent_and_child : check_of (over_one_and_two 1) ≡ 0
  pub highest_entry : check_of (one_entry 1_000_000) ≡ 0
  pub entry_too_high : check_of (one_entry 1_000_001) ≡ 9

pub starred_files : StarredFiles
unfolding everything lent cleared
starred_files = record {
  paper = refl;
  paper_sheet = refl;
  paper_printed = refl;
  one_bed = refl;
  equal_costs = refl;
  both_forbidden = refl;
  no_tables = refl;
  clinics = refl;
  clinics_sheet = refl;
  other_prices = refl;
  other_prices_sheet = refl;
  fewer_wanted = refl;
  siblings = refl;
  parent_and_child = refl;
  highest_entry = refl;
  entry_too_high = refl;
}
