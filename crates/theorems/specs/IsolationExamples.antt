-- Demand 3 on files written out: its hypotheses can be met by files that differ in all else, and a table that joins does make a difference, and so does a fixed bed.
-- (Theorems that rest on these stand in `proofs/IsolationExamples.antt`.)
use Rattle.std.proofs.Common.{ap, arith, ◌≡◌, ◌∷◌}
use Rattle.definitions.specs.Basics.{ℕ, refl, Bool, true, false, cond, none, some, List, [], length, get_or, any}
use Rattle.definitions.specs.Syntax.{Patient, Table, bed_counts, fixed_beds, patients_of}
use Rattle.definitions.specs.Questions.{region_of}
use Rattle.definitions.specs.Plans.{Row}
use Rattle.definitions.specs.Sheets.{sheet_of}
use Rattle.definitions.specs.Isolation.{YieldsList, tables_among, times_in, joins, SameClinic, SameBeginning}
use Rattle.definitions.specs.Computing.{everything}
use Rattle.definitions.specs.Examples.{patient, fixed, table, file_of, row}
use Rattle.theorems.specs.Sameness.{same_table}

-- Clinic 0 has two patients with 2 beds each and two tables, over its first patient and over both, by their numbers.
abbrev single : ℕ → Table
single a = table (a ∷ []) (some 3 ∷ some 1 ∷ [])

abbrev double : ℕ → ℕ → Table
double a b = table (a ∷ b ∷ []) (some 0 ∷ some 2 ∷ some 1 ∷ none ∷ [])

-- As patients 1 and 3 between those of clinic 1, of which one has a fixed bed, for 6 plans.
abbrev pub between : List ℕ
between = file_of 6 (fixed 1 2 none 1 ∷ patient 0 2 none ∷ patient 1 2 (some 0) ∷ patient 0 2 (some 1) ∷ [])
    (table (0 ∷ 2 ∷ []) (some 5 ∷ some 0 ∷ some 1 ∷ some 4 ∷ []) ∷ single 1 ∷ double 1 3 ∷ [])

-- As patients 0 and 1 before one of clinic 2, for 2 plans, the first as it is given; the tables in another order, and those given besides.
abbrev before : Patient → List Table → List ℕ
before first others = file_of 2 (first ∷ patient 0 2 (some 0) ∷ patient 2 3 (some 1) ∷ [])
    (double 0 1 ∷ table (2 ∷ []) (none ∷ some 7 ∷ some 12 ∷ []) ∷ single 0 ∷ others)

abbrev pub apart : List ℕ
apart = before (patient 0 2 none) []

-- With a table that makes bed 1 of the first patient dear, by way of the patient of clinic 2.
abbrev pub joined : List ℕ
joined = before (patient 0 2 none) (table (0 ∷ 2 ∷ []) (some 0 ∷ some 0 ∷ some 0 ∷ some 9 ∷ some 9 ∷ some 9 ∷ []) ∷ [])

-- With a fixed bed for the first patient, the dearer one.
abbrev pub stayed : List ℕ
stayed = before (fixed 0 2 none 0) []

-- The order of two tables makes no difference.
times_swap : (a b t : Table) → times_in (a ∷ b ∷ []) t ≡ times_in (b ∷ a ∷ []) t
unfolding times_in
times_swap a b t = go (same_table t a) (same_table t b)
  where
    go : (p q : Bool) → length (cond p (a ∷ cond q (b ∷ []) []) (cond q (b ∷ []) [])) ≡ length (cond q (b ∷ cond p (a ∷ []) []) (cond p (a ∷ []) []))
    go true true = refl
    go true false = refl
    go false true = refl
    go false false = refl

-- The clinic's plans, and those of them that leave its first patient in bed 0.
abbrev three_rows : List Row
three_rows = row 2 (1 ∷ 0 ∷ []) ∷ row 3 (0 ∷ 0 ∷ []) ∷ row 5 (0 ∷ 1 ∷ []) ∷ []

abbrev two_rows : List Row
two_rows = row 3 (0 ∷ 0 ∷ []) ∷ row 5 (0 ∷ 1 ∷ []) ∷ []

-- Two files with the same clinic, and their sheets. (A clinic with no patient has one empty row.)
pub record Apart : Type 0 where
  pub first_yields : YieldsList between
  pub second_yields : YieldsList apart
  pub same_clinic : SameClinic 0 (region_of between) (region_of apart)
  pub first_sheet : sheet_of (region_of between) 0 ≡ three_rows
  pub second_sheet : sheet_of (region_of apart) 0 ≡ row 2 (1 ∷ 0 ∷ []) ∷ row 3 (0 ∷ 0 ∷ []) ∷ []
  pub no_patients : sheet_of (region_of between) 2 ≡ row 0 [] ∷ []

pub apart_alike : Apart
unfolding everything
apart_alike = record {
  first_yields = refl;
  second_yields = refl;
  same_clinic = record { beds = refl {a = 2 ∷ 2 ∷ []}; fixed = refl {a = none ∷ none ∷ []}; tables = times_swap (single 0) (double 0 1); apart_in_first = refl; apart_in_second = refl };
  first_sheet = refl;
  second_sheet = refl;
  no_patients = refl;
}

-- The same but for a table that joins in the second file: the sheets differ in their first rows.
pub record Joined : Type 0 where
  pub second_yields : YieldsList joined
  pub beds : bed_counts (region_of between) (patients_of (region_of between) 0) ≡ bed_counts (region_of joined) (patients_of (region_of joined) 0)
  pub tables : (t : Table) → times_in (tables_among (region_of between) 0) t ≡ times_in (tables_among (region_of joined) 0) t
  pub joined_in_second : any (joins (region_of joined) 0) (region_of joined).tables ≡ true
  pub second_sheet : sheet_of (region_of joined) 0 ≡ two_rows

pub joined_differs : Joined
unfolding everything
joined_differs = record {
  second_yields = refl;
  beds = refl {a = 2 ∷ 2 ∷ []};
  tables = times_swap (single 0) (double 0 1);
  joined_in_second = refl;
  second_sheet = refl;
}

-- The sheets do not begin alike.
pub otherwise : SameBeginning three_rows two_rows → ⊥
otherwise h =
    let e : ◌≡◌ {A = ℕ} 2 3 = ap (λ rows. (get_or rows 0 (row 0 [])).cost) h.same_rows in
    omega arith

pub not_alike : SameBeginning (sheet_of (region_of between) 0) (sheet_of (region_of joined) 0) → ⊥
not_alike h = otherwise (rw (apart_alike.first_sheet, joined_differs.second_sheet) at h)

-- The same but for the fixed bed of one of its patients in the second file: the sheets differ in their first rows.
pub record FixedOtherwise : Type 0 where
  pub second_yields : YieldsList stayed
  pub beds : bed_counts (region_of between) (patients_of (region_of between) 0) ≡ bed_counts (region_of stayed) (patients_of (region_of stayed) 0)
  pub first_fixed : fixed_beds (region_of between) (patients_of (region_of between) 0) ≡ none ∷ none ∷ []
  pub second_fixed : fixed_beds (region_of stayed) (patients_of (region_of stayed) 0) ≡ some 0 ∷ none ∷ []
  pub tables : (t : Table) → times_in (tables_among (region_of between) 0) t ≡ times_in (tables_among (region_of stayed) 0) t
  pub apart_in_second : any (joins (region_of stayed) 0) (region_of stayed).tables ≡ false
  pub second_sheet : sheet_of (region_of stayed) 0 ≡ two_rows

pub fixed_differs : FixedOtherwise
unfolding everything
fixed_differs = record {
  second_yields = refl;
  beds = refl {a = 2 ∷ 2 ∷ []};
  first_fixed = refl;
  second_fixed = refl;
  tables = times_swap (single 0) (double 0 1);
  apart_in_second = refl;
  second_sheet = refl;
}
