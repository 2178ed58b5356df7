-- What stands in the lent areas after a sheet is printed: each row of the sheet in its place.
use Rattle.std.proofs.Common.{sym, ◌∙◌, append_assoc, mul-le-mul, mul-le-mul_right, arith, take_at, ◌+◌, ◌*◌, ◌<◌, ◌≡◌, ◌∷◌, ◌++◌}
use Rattle.std.proofs.Math.Path.{ap}
use Rattle.std.proofs.Math.Nat.{le_trans}
use borrow.Author.Tests.{leb-true}
use Rattle.std.specs.Prelude.{◌≤◌}
use Rattle.std.proofs.Math.ListN.{length-map}
use Rattle.std.proofs.Math.Seq.{drop-append-add}
use Rattle.definitions.specs.Basics.{ℕ, zero, suc, refl, true, List, [], map, flat_map, length, get_or, take}
use Rattle.definitions.specs.Basics.{leb}
use Rattle.definitions.specs.Syntax.{Region, patients_of}
use Rattle.definitions.specs.Plans.{Row, list_of}
use Rattle.definitions.specs.Sheets.{same_beds, part, own_row, sheet_of}
use Rattle.definitions.specs.Questions.{Asked, call_asks, room_for_rows, areas_long_enough, asked_by_sheet}
use Rattle.definitions.specs.Isolation.{YieldsList}
use Rattle.definitions.specs.Outcomes.{Found, sheet_found, written, beds_after, costs_after, outcome_of, sheet_outcome}
use Rattle.definitions.specs.Boundary.{bytes_of, room_for_numbers, result_after, call_of, sheet_call}
use Rattle.lists.specs.Tests.{both}
use Rattle.lists.specs.Members.{◌∈◌, here, there}
use Rattle.ranking.specs.FirstComing.{first_few}
use Rattle.theorems.specs.Writing.{written_is}
use Rattle.theorems.specs.Accepted.{patients_counted_lem}
use Rattle.theorems.proofs.List.{list_first}
use Rattle.theorems.specs.Yields.{yielding, sheet_printed, sheet_call_printed}
use Rattle.theorems.proofs.SheetRows.{sheet_rows}
use Rattle.theorems.specs.SheetAreas
use Rattle.theorems.specs.SheetAreas.{row_at, patients_few, Printed, found_rows}

-- ---- one row among those that were written

flat_at : {A : Type 0} (values : A → List ℕ) (width : ℕ) (xs : List A) (rest : List ℕ) → ((x : A) → x ∈ xs → length (values x) ≡ width)
    → (r : ℕ) (d : A) → r < length xs → row_at width r (flat_map values xs ++ rest) ≡ values (get_or xs r d)
unfolding flat_map
flat_at values width [] rest wide r d h = absurd (omega arith)
flat_at values width (x ∷ xs) rest wide zero d h =
    let none : zero * width ≡ 0 = omega arith in
    rw (none, append_assoc (values x) (flat_map values xs) rest) (take_at (values x) (flat_map values xs ++ rest) width (wide x (here refl)))
flat_at values width (x ∷ xs) rest wide (suc r) d h =
    let more : suc r * width ≡ length (values x) + r * width = omega (arith, wide x (here refl)) in
    rw (more, append_assoc (values x) (flat_map values xs) rest, drop-append-add (values x) (flat_map values xs ++ rest) (r * width))
    (flat_at values width xs rest (λ y k. wide y (there k)) r d (omega arith))

written_at : {A : Type 0} (values : A → List ℕ) (width : ℕ) (xs : List A) (area : List ℕ) → ((x : A) → x ∈ xs → length (values x) ≡ width)
    → length xs * width ≤ length area → (r : ℕ) (d : A) → r < length xs → row_at width r (written 0 width values xs area) ≡ values (get_or xs r d)
written_at values width xs area wide fits r d h =
    let none : 0 * width ≡ 0 = omega arith in
    rw (written_is values width 0 xs area wide (omega arith), none) (flat_at values width xs _ wide r d h)

-- One number in a result area.
number_at : (n : ℕ) (result : List ℕ) → room_for_numbers 1 result ≡ true → take 8 (result_after (n ∷ []) result) ≡ bytes_of 8 n
unfolding result_after
number_at n result h = rw h (written_at (bytes_of 8) 8 (n ∷ []) result (λ x k. refl) (leb-true 8 (length result) h) 0 0 (omega arith))

-- ---- a sheet has room: at most m rows of at most V beds

module _ (region : Region) (c : ℕ) where
  pub rows_few : length (sheet_of region c) ≤ region.plans_wanted
  unfolding sheet_of
  rows_few = le_trans (first_few same_beds [] (map (own_row region c) (list_of region)))
      (omega (arith, length-map (list_of region) (own_row region c), (list_first region).short))

  pub row_wide : (v : Row) → v ∈ sheet_of region c → length v.beds ≡ length (patients_of region c)
  unfolding own_row part
  row_wide v k = let (w, i, e) = sheet_rows region c v k in ap (λ (x : Row). length x.beds) (sym e) ∙ length-map (patients_of region c) _

-- ---- what a printed sheet leaves in the areas

module _ (file : List ℕ) (c : ℕ) where
  abbrev region : Region
  region = SheetAreas.region file c

  abbrev found : Asked → Found
  found = SheetAreas.found file c

  found_printed : (asked : Asked) (size : ℕ) (parts : ℕ → List ℕ) (beds costs : List ℕ) → ((n : ℕ) → length (parts n) ≡ size)
      → YieldsList file → room_for_rows region size beds costs ≡ true → (found asked).number ≡ 0
      → Printed file c size parts (beds_after (found asked) beds) (costs_after size parts (found asked) costs)
  unfolding room_for_rows sheet_found
  found_printed asked size parts beds costs sized list room e = rw (found_rows file c asked e) (record {
    list = list;
    beds_at = written_at (λ w. w.beds) (length (patients_of region c)) (sheet_of region c) beds (row_wide region c)
        (le_trans (mul-le-mul (rows_few region c) (omega (arith, patients_few region c, counted))) beds_room);
    cost_at = written_at (λ w. parts w.cost) size (sheet_of region c) costs (λ w k. sized w.cost) (le_trans (mul-le-mul_right size (rows_few region c)) costs_room);
  })
    where
      beds_room : region.plans_wanted * region.patient_count ≤ length beds
      beds_room = leb-true _ _ (both (leb (region.plans_wanted * region.patient_count) (length beds)) room).0

      costs_room : region.plans_wanted * size ≤ length costs
      costs_room = leb-true _ _ (both (leb (region.plans_wanted * region.patient_count) (length beds)) room).1

      counted : length region.patients ≡ region.patient_count
      counted = patients_counted_lem region (yielding file list)

  -- The entry: each cost is one number.
  module _ (beds costs work : List ℕ) (e : (sheet_outcome file c beds costs work).number ≡ 0) where
    abbrev entry_asked : Asked
    entry_asked = SheetAreas.entry_asked file c beds costs work e

    pub outcome_printed : Printed file c 1 (λ n. n ∷ []) (sheet_outcome file c beds costs work).beds (sheet_outcome file c beds costs work).costs
    unfolding sheet_outcome outcome_of areas_long_enough
    outcome_printed = let (list, present, long) = (sheet_printed file c beds costs work).0 e in
        found_printed entry_asked 1 (λ n. n ∷ []) beds costs (λ n. refl) list (both (room_for_rows region 1 beds costs) long).0 e

  -- The call from C: each cost is eight bytes, and the row count stands in the result area.
  module _ (beds costs result : List ℕ) (e : (sheet_call file c beds costs result).number ≡ 0) where
    abbrev call_asked : Asked
    call_asked = call_asks (asked_by_sheet file c (room_for_rows region 8 beds costs)) (room_for_numbers 1 result)

    pub call_rows : take 8 (sheet_call file c beds costs result).result ≡ bytes_of 8 (length (sheet_of region c))
    unfolding sheet_call call_of
    call_rows = let (list, present, rows, fits) = (sheet_call_printed file c beds costs result).0 e in
        number_at _ result fits ∙ ap (λ (rows : List Row). bytes_of 8 (length rows)) (found_rows file c call_asked e)

    pub call_printed : Printed file c 8 (bytes_of 8) (sheet_call file c beds costs result).beds (sheet_call file c beds costs result).costs
    unfolding sheet_call call_of
    call_printed = let (list, present, rows, fits) = (sheet_call_printed file c beds costs result).0 e in
        found_printed call_asked 8 (bytes_of 8) beds costs (λ n. refl) list rows e
