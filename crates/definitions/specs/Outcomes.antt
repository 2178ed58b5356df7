-- What list, sheet and price give back: a number, values, and every lent area afterwards. (Check gives `check_of` alone.)
use Rattle.std.specs.Prelude.{◌*◌, ◌||◌, ◌∷◌}
use Rattle.definitions.specs.Basics.{ℕ, zero, suc, Bool, true, false, cond, Option, none, some, List, [], length}
use Rattle.definitions.specs.Basics.{replicate, sets, eqb}
use Rattle.definitions.specs.Syntax.{Region, patients_of}
use Rattle.definitions.specs.Plans.{Plan, Row, total, list_of}
use Rattle.definitions.specs.Sheets.{sheet_of}
use Rattle.definitions.specs.Questions.{Asked, first_no, entry_asks, region_of, areas_long_enough, asked_by_list, asked_by_sheet, asked_by_price}

-- What list and sheet find: the number, how many beds a row has, and the rows.
pub record Found : Type 0 where
  pub number : ℕ
  pub width : ℕ
  pub rows : List Row

-- A refusal hands back nothing.
abbrev pub unless_refused : {A : Type 0} → ℕ → List A → List A
unless_refused zero result = result
unless_refused (suc q) result = []

abbrev pub found_by : Asked → ℕ → List Row → Found
found_by asked width rows = record { number = first_no asked; width = width; rows = unless_refused (first_no asked) rows }

-- List has rows of V beds, sheet as many as the clinic has patients. What is asked is handed in, since a call from C asks more.
unfoldable pub list_found : List ℕ → Asked → Found
list_found file asked = let r = region_of file in found_by asked r.patient_count (list_of r)

unfoldable pub sheet_found : List ℕ → ℕ → Asked → Found
sheet_found file c asked = let r = region_of file in found_by asked (length (patients_of r c)) (sheet_of r c)

-- An area after rows are written to it, from row r on, where row r begins at r × width; all else in it is as it was.
-- (The kit's `sets area i values` puts the values into the area from place i on.)
abbrev pub written : {A : Type 0} → ℕ → ℕ → (A → List ℕ) → List A → List ℕ → List ℕ
written r width values [] area = area
written r width values (x ∷ xs) area = written (suc r) width values xs (sets area (r * width) (values x))

-- The beds area afterwards: the beds of each row.
abbrev pub beds_after : Found → List ℕ → List ℕ
beds_after f beds = written 0 f.width (λ row. row.beds) f.rows beds

-- The cost area afterwards: the cost of each row, which stands there in so many parts.
abbrev pub costs_after : ℕ → (ℕ → List ℕ) → Found → List ℕ → List ℕ
costs_after cost_size parts f costs = written 0 cost_size (λ row. parts row.cost) f.rows costs

-- The work area afterwards: untouched after 1 to 12, and all zeros after 13 or success.
abbrev pub work_after : ℕ → List ℕ → List ℕ
work_after number work = cond (eqb number 0 || eqb number 13) (replicate (length work) 0) work

-- What list and sheet give back: the number, the row count, and the lent areas.
pub record ListOutcome : Type 0 where
  pub number : ℕ
  pub rows : ℕ
  pub beds : List ℕ
  pub costs : List ℕ
  pub work : List ℕ

unfoldable pub outcome_of : Found → List ℕ → List ℕ → List ℕ → ListOutcome
outcome_of f beds costs work = record {
  number = f.number;
  rows = length f.rows;
  beds = beds_after f beds;
  costs = costs_after 1 (λ cost. cost ∷ []) f costs;
  work = work_after f.number work;
}

-- List, over a file and the lent beds, costs and work area; sheet, with the clinic after the file.
unfoldable pub list_outcome : List ℕ → List ℕ → List ℕ → List ℕ → ListOutcome
list_outcome file beds costs work =
    let asks = asked_by_list file (areas_long_enough (region_of file) beds costs work) in
    outcome_of (list_found file (entry_asks asks)) beds costs work

unfoldable pub sheet_outcome : List ℕ → ℕ → List ℕ → List ℕ → List ℕ → ListOutcome
sheet_outcome file clinic beds costs work =
    let asks = asked_by_sheet file clinic (areas_long_enough (region_of file) beds costs work) in
    outcome_of (sheet_found file clinic (entry_asks asks)) beds costs work

-- What price gives back: the number, whether the plan is allowed, and its total.
pub record PriceOutcome : Type 0 where
  pub number : ℕ
  pub allowed : Bool
  pub total : ℕ

-- A refused plan is not allowed and its total is 0; so it is for a forbidden plan, with number 0.
abbrev pub priced : ℕ → Option ℕ → PriceOutcome
priced zero (some t) = record { number = 0; allowed = true; total = t }
priced zero none = record { number = 0; allowed = false; total = 0 }
priced (suc q) t = record { number = suc q; allowed = false; total = 0 }

unfoldable pub price_found : List ℕ → Plan → Asked → PriceOutcome
price_found file plan asked = priced (first_no asked) (total (region_of file) plan)

unfoldable pub price_outcome : List ℕ → Plan → PriceOutcome
price_outcome file plan = price_found file plan (entry_asks (asked_by_price file plan))
