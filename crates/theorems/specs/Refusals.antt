-- Demand 1, of the entries over a file and their calls from C: what each number says, and what a refusal hands back and leaves.
-- (What the writer's number says stands in `Writer`.)
-- (Theorems that rest on these stand in `proofs/Refusals.antt`.)
use Rattle.std.specs.Prelude.{◌≡◌, refl, ◌⊎◌, drop, ◌≤◌}
use Rattle.std.proofs.Common.{ap, arith, ◌*◌, ◌<◌, ◌∷◌, ◌++◌}
use Rattle.definitions.specs.Basics.{ℕ, zero, suc, Bool, true, false, Option, none, some, List, [], length, replicate}
use Rattle.definitions.specs.Syntax.{Region}
use Rattle.definitions.specs.Plans.{Plan, Row, total, list_of}
use Rattle.definitions.specs.Sheets.{sheet_of}
use Rattle.definitions.specs.Questions.{Asked, first_no, region_of, room_for_rows, areas_long_enough, asked_by_check, check_of}
use Rattle.definitions.specs.Questions.{entry_asks, call_asks, asked_by_list, asked_by_sheet, asked_by_price}
use Rattle.definitions.specs.Outcomes.{Found, unless_refused, list_found, sheet_found, written}
use Rattle.definitions.specs.Outcomes.{ListOutcome, outcome_of, list_outcome, sheet_outcome, PriceOutcome, priced, price_found, price_outcome}
use Rattle.definitions.specs.Writer.{asked_by_write}
use Rattle.definitions.specs.Joining.{asked_by_join}
use Rattle.definitions.specs.Parents.{asked_by_parents}
use Rattle.definitions.specs.Lookup.{line_over, asked_by_line, part_unless_refused, line_found, line_outcome}
use Rattle.definitions.specs.Boundary.{room_for_numbers, ListCall, call_of, check_call, list_call, sheet_call, price_call_of, price_call}
use Rattle.definitions.specs.Boundary.{asked_by_lent_write, line_call_of, line_call, asked_by_read}
use Rattle.definitions.specs.Isolation.{yield_number}
use Rattle.theorems.specs.Answers.{numbers, Numbered, Says, says, yes_then, no_then}

-- ---- the questions of each entry, by number, whatever the file

abbrev five_to_nine : List ℕ
five_to_nine = 5 ∷ 6 ∷ 7 ∷ 8 ∷ 9 ∷ []

abbrev five_to_ten : List ℕ
five_to_ten = five_to_nine ++ 10 ∷ []

abbrev one_to_nine : List ℕ
one_to_nine = 1 ∷ 2 ∷ 3 ∷ 4 ∷ five_to_nine

abbrev one_to_ten : List ℕ
one_to_ten = one_to_nine ++ 10 ∷ []

pub record EachAsks : Type 0 where
  pub check : (file : List ℕ) → numbers (asked_by_check file) ≡ one_to_ten
  pub list : (file : List ℕ) (long_enough : Bool) → numbers (entry_asks (asked_by_list file long_enough)) ≡ one_to_ten ++ 12 ∷ 13 ∷ []
  pub sheet : (file : List ℕ) (c : ℕ) (long_enough : Bool) → numbers (entry_asks (asked_by_sheet file c long_enough)) ≡ one_to_ten ++ 11 ∷ 12 ∷ 13 ∷ []
  pub price : (file : List ℕ) (plan : Plan) → numbers (entry_asks (asked_by_price file plan)) ≡ one_to_ten ++ 14 ∷ []
  pub line : (file typed : List ℕ) → numbers (entry_asks (asked_by_line file typed)) ≡ one_to_ten ++ 21 ∷ []
  pub join : (f g output : List ℕ) → numbers (entry_asks (asked_by_join f g output)) ≡ one_to_ten ++ one_to_ten ++ 16 ∷ 17 ∷ 15 ∷ []
  pub parents : (file output : List ℕ) → numbers (entry_asks (asked_by_parents file output)) ≡ one_to_nine ++ 15 ∷ []
  -- From C, 12 is asked of the result area first.
  pub list_from_c : (file : List ℕ) (long_enough room : Bool) → numbers (call_asks (asked_by_list file long_enough) room) ≡ one_to_ten ++ 12 ∷ 12 ∷ 13 ∷ []
  pub sheet_from_c : (file : List ℕ) (c : ℕ) (long_enough room : Bool)
      → numbers (call_asks (asked_by_sheet file c long_enough) room) ≡ one_to_ten ++ 11 ∷ 12 ∷ 12 ∷ 13 ∷ []
  pub price_from_c : (file : List ℕ) (plan : Plan) (room : Bool) → numbers (call_asks (asked_by_price file plan) room) ≡ one_to_ten ++ 12 ∷ 14 ∷ []
  pub line_from_c : (file typed : List ℕ) (room : Bool) → numbers (call_asks (asked_by_line file typed) room) ≡ one_to_ten ++ 12 ∷ 21 ∷ []
  pub join_from_c : (f g output : List ℕ) (room : Bool) → numbers (call_asks (asked_by_join f g output) room) ≡ one_to_ten ++ one_to_ten ++ 12 ∷ 16 ∷ 17 ∷ 15 ∷ []
  pub parents_from_c : (file output : List ℕ) (room : Bool) → numbers (call_asks (asked_by_parents file output) room) ≡ one_to_nine ++ 12 ∷ 15 ∷ []
  -- Read is a call only.
  pub read_from_c : (file patients tables entries : List ℕ) (room : Bool) → numbers (call_asks (asked_by_read file patients tables entries) room) ≡ one_to_ten ++ 12 ∷ 12 ∷ []
  -- The writer has no file to read; from C, 2 is asked of the areas that hold the region.
  pub write : (r : Region) (output : List ℕ) → numbers (entry_asks (asked_by_write r output)) ≡ five_to_ten ++ 15 ∷ []
  pub write_from_c : (patients tables entries : List ℕ) (m : ℕ) (output : List ℕ) (room : Bool)
      → numbers (call_asks (asked_by_lent_write patients tables entries m output) room) ≡ 2 ∷ five_to_ten ++ 12 ∷ 15 ∷ []

pub each_asks : EachAsks
unfolding asked_by_check asked_by_list asked_by_sheet asked_by_price asked_by_line asked_by_join asked_by_parents asked_by_write asked_by_lent_write asked_by_read
each_asks = record {
  check = λ file. refl;
  list = λ file l. refl;
  sheet = λ file c l. refl;
  price = λ file p. refl;
  line = λ file typed. refl;
  join = λ f g output. refl;
  parents = λ file output. refl;
  list_from_c = λ file l room. refl;
  sheet_from_c = λ file c l room. refl;
  price_from_c = λ file p room. refl;
  line_from_c = λ file typed room. refl;
  join_from_c = λ f g output room. refl;
  parents_from_c = λ file output room. refl;
  read_from_c = λ file ps ts es room. refl;
  write = λ r output. refl;
  write_from_c = λ ps ts es m output room. refl;
}

-- ---- what the number of each entry and of each call says

module _ (file : List ℕ) where
  pub check_says : Says (asked_by_check file) (check_of file)
  unfolding check_of asked_by_check
  check_says = says (asked_by_check file) tt

  -- List, with areas that are long enough.
  pub yield_says : Says (entry_asks (asked_by_list file true)) (yield_number file)
  unfolding asked_by_list asked_by_check
  yield_says = says (entry_asks (asked_by_list file true)) tt

  pub list_says : (beds costs work : List ℕ)
      → Says (entry_asks (asked_by_list file (areas_long_enough (region_of file) beds costs work))) (list_outcome file beds costs work).number
  unfolding list_outcome outcome_of list_found asked_by_list asked_by_check
  list_says beds costs work = says (entry_asks (asked_by_list file (areas_long_enough (region_of file) beds costs work))) tt

  pub sheet_says : (c : ℕ) (beds costs work : List ℕ)
      → Says (entry_asks (asked_by_sheet file c (areas_long_enough (region_of file) beds costs work))) (sheet_outcome file c beds costs work).number
  unfolding sheet_outcome outcome_of sheet_found asked_by_sheet asked_by_check
  sheet_says c beds costs work = says (entry_asks (asked_by_sheet file c (areas_long_enough (region_of file) beds costs work))) tt

  pub line_says_lem : (typed : List ℕ) → Says (entry_asks (asked_by_line file typed)) (line_outcome file typed).number
  unfolding line_outcome line_found asked_by_line asked_by_check
  line_says_lem typed = says (entry_asks (asked_by_line file typed)) tt

  -- The calls of check, list, sheet and line from C.
  pub check_call_says : Says (asked_by_check file) (check_call file)
  check_call_says = check_says

  pub list_call_says : (beds costs result : List ℕ)
      → Says (call_asks (asked_by_list file (room_for_rows (region_of file) 8 beds costs)) (room_for_numbers 1 result)) (list_call file beds costs result).number
  unfolding list_call call_of list_found asked_by_list asked_by_check
  list_call_says beds costs result = says (call_asks (asked_by_list file (room_for_rows (region_of file) 8 beds costs)) (room_for_numbers 1 result)) tt

  pub sheet_call_says : (c : ℕ) (beds costs result : List ℕ)
      → Says (call_asks (asked_by_sheet file c (room_for_rows (region_of file) 8 beds costs)) (room_for_numbers 1 result)) (sheet_call file c beds costs result).number
  unfolding sheet_call call_of sheet_found asked_by_sheet asked_by_check
  sheet_call_says c beds costs result = says (call_asks (asked_by_sheet file c (room_for_rows (region_of file) 8 beds costs)) (room_for_numbers 1 result)) tt

  pub line_call_says : (typed result : List ℕ)
      → Says (call_asks (asked_by_line file typed) (room_for_numbers 2 result)) (line_call file typed result).number
  unfolding line_call line_call_of line_found asked_by_line asked_by_check
  line_call_says typed result = says (call_asks (asked_by_line file typed) (room_for_numbers 2 result)) tt

-- Price and its call.
priced_number : (q : ℕ) (t : Option ℕ) → (priced q t).number ≡ q
priced_number zero none = refl
priced_number zero (some t) = refl
priced_number (suc q) t = refl

module _ (file : List ℕ) (plan : Plan) where
  pub price_number : (asked : Asked) → (price_found file plan asked).number ≡ first_no asked
  unfolding price_found
  price_number asked = priced_number (first_no asked) (total (region_of file) plan)

  price_found_lem : (asked : Asked) → Numbered asked → Says asked (price_found file plan asked).number
  price_found_lem asked n = rw (price_number asked) (says asked n)

  pub price_says : Says (entry_asks (asked_by_price file plan)) (price_outcome file plan).number
  unfolding price_outcome asked_by_price asked_by_check
  price_says = price_found_lem (entry_asks (asked_by_price file plan)) tt

  pub price_call_says : (result : List ℕ) → Says (call_asks (asked_by_price file plan) (room_for_numbers 2 result)) (price_call file plan result).number
  unfolding price_call price_call_of asked_by_price asked_by_check
  price_call_says result = price_found_lem (call_asks (asked_by_price file plan) (room_for_numbers 2 result)) tt

-- ---- what is asked after check's questions counts where check gives 0, and only there

module _ (file : List ℕ) (late : Asked) where
  pub after_check : check_of file ≡ 0 → first_no (asked_by_check file ++ late) ≡ first_no late
  after_check e = yes_then (asked_by_check file) late ((check_says file).accepted.0 e)

  pub refused_before : (q : ℕ) → check_of file ≡ suc q → first_no (asked_by_check file ++ late) ≡ suc q
  unfolding check_of
  refused_before q e = no_then (asked_by_check file) late q e

-- ---- what a refusal of list or sheet hands back and leaves

pub record RowsRefused (beds costs : List ℕ) (o : ListOutcome) : Type 0 where
  pub no_rows : o.rows ≡ 0
  pub beds_kept : o.beds ≡ beds
  pub costs_kept : o.costs ≡ costs

-- The work area is untouched after 1 to 12, and all zeros after 13 or success.
pub record WorkLeft (number : ℕ) (before after : List ℕ) : Type 0 where
  pub untouched : (number ≡ 0 → ⊥) → (number ≡ 13 → ⊥) → after ≡ before
  pub zeroed : (number ≡ 0) ⊎ (number ≡ 13) → after ≡ replicate (length before) 0

pub list_none : (file : List ℕ) (asked : Asked) (q : ℕ) → (list_found file asked).number ≡ suc q → (list_found file asked).rows ≡ []
unfolding list_found
list_none file asked q e = ap (λ (n : ℕ). unless_refused n (list_of (region_of file))) e

pub sheet_none : (file : List ℕ) (c : ℕ) (asked : Asked) (q : ℕ) → (sheet_found file c asked).number ≡ suc q → (sheet_found file c asked).rows ≡ []
unfolding sheet_found
sheet_none file c asked q e = ap (λ (n : ℕ). unless_refused n (sheet_of (region_of file) c)) e

outcome_refused : (f : Found) (beds costs work : List ℕ) → f.rows ≡ [] → RowsRefused beds costs (outcome_of f beds costs work)
unfolding outcome_of
outcome_refused f beds costs work e = record {
  no_rows = ap length e;
  beds_kept = ap (λ (rows : List Row). written 0 f.width (λ w. w.beds) rows beds) e;
  costs_kept = ap (λ (rows : List Row). written 0 1 (λ w. w.cost ∷ []) rows costs) e;
}

module _ (file beds costs work : List ℕ) where
  abbrev pub list_asked : Asked
  list_asked = entry_asks (asked_by_list file (areas_long_enough (region_of file) beds costs work))

  abbrev pub sheet_asked : ℕ → Asked
  sheet_asked c = entry_asks (asked_by_sheet file c (areas_long_enough (region_of file) beds costs work))

  pub list_refused : (q : ℕ) → (list_outcome file beds costs work).number ≡ suc q → RowsRefused beds costs (list_outcome file beds costs work)
  unfolding list_outcome outcome_of
  list_refused q e = outcome_refused (list_found file list_asked) beds costs work (list_none file list_asked q e)

  pub sheet_refused : (c q : ℕ) → (sheet_outcome file c beds costs work).number ≡ suc q → RowsRefused beds costs (sheet_outcome file c beds costs work)
  unfolding sheet_outcome outcome_of
  sheet_refused c q e = outcome_refused (sheet_found file c (sheet_asked c)) beds costs work (sheet_none file c (sheet_asked c) q e)

-- ---- what a refused call leaves: a shorter result area is untouched, any other begins with zeros

pub record ResultZeroed (count : ℕ) (before after : List ℕ) : Type 0 where
  pub shorter : length before < count * 8 → after ≡ before
  pub otherwise : count * 8 ≤ length before → after ≡ replicate (count * 8) 0 ++ drop (count * 8) before

pub record CallRefused (beds costs result : List ℕ) (c : ListCall) : Type 0 where
  pub beds_kept : c.beds ≡ beds
  pub costs_kept : c.costs ≡ costs
  pub no_rows : ResultZeroed 1 result c.result

-- ---- a refused plan is not allowed, and its total is 0

pub record PlanRefused (p : PriceOutcome) : Type 0 where
  pub not_allowed : p.allowed ≡ false
  pub no_total : p.total ≡ 0

priced_refused : (n : ℕ) (t : Option ℕ) (q : ℕ) → (priced n t).number ≡ suc q → PlanRefused (priced n t)
priced_refused zero none q e = record { not_allowed = refl; no_total = refl }
priced_refused zero (some t) q e = absurd (omega arith)
priced_refused (suc n) t q e = record { not_allowed = refl; no_total = refl }

pub found_refused : (file : List ℕ) (plan : Plan) (asked : Asked) (q : ℕ) → (price_found file plan asked).number ≡ suc q → PlanRefused (price_found file plan asked)
unfolding price_found
found_refused file plan asked q e = priced_refused (first_no asked) (total (region_of file) plan) q e

pub price_refused : (file : List ℕ) (plan : Plan) (q : ℕ) → (price_outcome file plan).number ≡ suc q → PlanRefused (price_outcome file plan)
unfolding price_outcome
price_refused file plan q e = found_refused file plan (entry_asks (asked_by_price file plan)) q e

-- ---- where no line is handed back, the part is the empty one at the file's end

pub line_refused : (file typed : List ℕ) (q : ℕ) → (line_outcome file typed).number ≡ suc q
    → (line_outcome file typed).part ≡ record { start = length file; size = 0 }
unfolding line_outcome line_found
line_refused file typed q e = ap (λ (n : ℕ). part_unless_refused n file (line_over file typed)) e

abbrev pub LineCallRefused : Type 0
LineCallRefused = (file typed result : List ℕ) (q : ℕ) → (line_call file typed result).number ≡ suc q
    → ResultZeroed 2 result (line_call file typed result).result
