-- Demand 1, of the entries over a file and their calls from C: what each number says, and what a refusal hands back and leaves.
-- (What the writer's number says stands in `Writer`.)
use Rattle.std.specs.Prelude.{◌≡◌, refl, drop}
use Rattle.std.proofs.Common.{ap, ap₂, ◌∙◌, inl, inr, arith, ne_eqb, le-leb, ◌+◌, ◌*◌, ◌++◌}
use Rattle.std.proofs.lemmas.List.{length-replicate, replicate-append-replicate}
use Rattle.std.proofs.lemmas.Bool.{lt-leb}
use Rattle.definitions.specs.Basics.{ℕ, zero, suc, List, [], flat_map, length, replicate}
use Rattle.definitions.specs.Plans.{Plan, Row}
use Rattle.definitions.specs.Questions.{Asked, region_of, room_for_rows}
use Rattle.definitions.specs.Questions.{call_asks, asked_by_list, asked_by_sheet, asked_by_price}
use Rattle.definitions.specs.Outcomes.{Found, list_found, sheet_found, written, work_after}
use Rattle.definitions.specs.Outcomes.{outcome_of, list_outcome, sheet_outcome}
use Rattle.definitions.specs.Boundary.{bytes_of, room_for_numbers, result_after, call_of, list_call, sheet_call, price_call_of, price_call}
use Rattle.definitions.specs.Boundary.{line_call_of, line_call}
use Rattle.theorems.specs.Writing.{written_is}
use Rattle.theorems.specs.Refusals
use Rattle.theorems.specs.Refusals.{WorkLeft, list_none, sheet_none, ResultZeroed, CallRefused, found_refused, LineCallRefused}

-- ---- what a refusal of list or sheet hands back and leaves

work_left : (number : ℕ) (work : List ℕ) → WorkLeft number work (work_after number work)
work_left number work = record {
  untouched = λ n m. simp (ne_eqb number 0 n, ne_eqb number 13 m);
  zeroed = λ h. elim h [ inl e ↦ rw e | inr e ↦ rw e ];
}

module _ (file beds costs work : List ℕ) where
  abbrev list_asked : Asked
  list_asked = Refusals.list_asked file beds costs work

  abbrev sheet_asked : ℕ → Asked
  sheet_asked = Refusals.sheet_asked file beds costs work

  pub list_work : WorkLeft (list_outcome file beds costs work).number work (list_outcome file beds costs work).work
  unfolding list_outcome outcome_of
  list_work = work_left (list_found file list_asked).number work

  pub sheet_work : (c : ℕ) → WorkLeft (sheet_outcome file c beds costs work).number work (sheet_outcome file c beds costs work).work
  unfolding sheet_outcome outcome_of
  sheet_work c = work_left (sheet_found file c (sheet_asked c)).number work

-- ---- what a refused call leaves: a shorter result area is untouched, any other begins with zeros

zero_bytes : (count : ℕ) → flat_map (bytes_of 8) (replicate count 0) ≡ replicate (count * 8) 0
unfolding flat_map
zero_bytes zero = refl
zero_bytes (suc count) =
    let more : 8 + count * 8 ≡ suc count * 8 = omega arith in
    ap (λ (r : List ℕ). replicate 8 0 ++ r) (zero_bytes count) ∙ replicate-append-replicate 8 (count * 8) 0 ∙ ap (λ (n : ℕ). replicate n 0) more

pub result_zeroed : (count : ℕ) (result : List ℕ) → ResultZeroed count result (result_after (replicate count 0) result)
unfolding result_after
result_zeroed count result = record {
  shorter = λ h. rw (counted, lt-leb (count * 8) (length result) h);
  otherwise = λ h. rw (counted, le-leb (count * 8) (length result) h) (
      written_is (bytes_of 8) 8 0 (replicate count 0) result (λ x k. refl) (omega (arith, counted))
      ∙ ap₂ (λ (a : List ℕ) (n : ℕ). a ++ drop n result) (zero_bytes count) all
      );
}
  where
    counted : length (replicate {A = ℕ} count 0) ≡ count
    counted = length-replicate count 0

    all : (0 + length (replicate {A = ℕ} count 0)) * 8 ≡ count * 8
    all = omega (arith, counted)

call_refused_lem : (f : Found) (beds costs result : List ℕ) → f.rows ≡ [] → CallRefused beds costs result (call_of f beds costs result)
unfolding call_of
call_refused_lem f beds costs result e = record {
  beds_kept = ap (λ (rows : List Row). written 0 f.width (λ w. w.beds) rows beds) e;
  costs_kept = ap (λ (rows : List Row). written 0 8 (λ w. bytes_of 8 w.cost) rows costs) e;
  no_rows = rw e (result_zeroed 1 result);
}

module _ (file beds costs result : List ℕ) where
  abbrev list_asked_from_c : Asked
  list_asked_from_c = call_asks (asked_by_list file (room_for_rows (region_of file) 8 beds costs)) (room_for_numbers 1 result)

  abbrev sheet_asked_from_c : ℕ → Asked
  sheet_asked_from_c c = call_asks (asked_by_sheet file c (room_for_rows (region_of file) 8 beds costs)) (room_for_numbers 1 result)

  pub list_call_refused : (q : ℕ) → (list_call file beds costs result).number ≡ suc q → CallRefused beds costs result (list_call file beds costs result)
  unfolding list_call call_of
  list_call_refused q e = call_refused_lem (list_found file list_asked_from_c) beds costs result (list_none file list_asked_from_c q e)

  pub sheet_call_refused : (c q : ℕ) → (sheet_call file c beds costs result).number ≡ suc q → CallRefused beds costs result (sheet_call file c beds costs result)
  unfolding sheet_call call_of
  sheet_call_refused c q e = call_refused_lem (sheet_found file c (sheet_asked_from_c c)) beds costs result (sheet_none file c (sheet_asked_from_c c) q e)

-- ---- a refused plan is not allowed, and its total is 0

pub price_call_refused : (file : List ℕ) (plan : Plan) (result : List ℕ) (q : ℕ) → (price_call file plan result).number ≡ suc q
    → ResultZeroed 2 result (price_call file plan result).result
unfolding price_call price_call_of
price_call_refused file plan result q e =
    let r = found_refused file plan (call_asks (asked_by_price file plan) (room_for_numbers 2 result)) q e in
    rw (r.not_allowed, r.no_total) (result_zeroed 2 result)

-- ---- where no line is handed back, the part is the empty one at the file's end

pub line_call_refused : LineCallRefused
unfolding line_call line_call_of
line_call_refused file typed result q e = rw e (result_zeroed 2 result)
