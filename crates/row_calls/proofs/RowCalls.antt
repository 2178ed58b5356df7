-- List and sheet as calls from C, from what the entry gives and what is written of it.
use mathlib.Core.Path.{◌≡◌, refl, sym, ap, ap₂, ◌∙◌}
use mathlib.Core.Bool.{and_assoc, and-true}
use Prim.Native.Nat.{◌≤◌, ◌-◌}
use native.Mathlib.Nat.{mul-one}
use native.Mathlib.Omega.{arith}
use borrow.Author.Tests.{le-leb, leb-true}
use lib.ListN.{length-map, length-take, length-replicate}
use lib.Seq.{take-append-le}
use Rattle.std.specs.Prelude.{◌+◌, ◌*◌, ◌&&◌, ◌∷◌, ◌++◌}
use Rattle.definitions.specs.Basics.{ℕ, zero, suc, Bool, true, false, List, [], map, length, take, replicate, leb}
use Rattle.definitions.specs.Syntax.{Region, patients_of}
use Rattle.definitions.specs.Plans.{Row, list_of}
use Rattle.definitions.specs.Sheets.{sheet_of}
use Rattle.definitions.specs.Questions.{Asked, entry_asks, asked_by_check, check_of, region_of, work_size, room_for_rows, areas_long_enough}
use Rattle.definitions.specs.Questions.{clinic_present, plan_allowed, asked_by_list, asked_by_sheet}
use Rattle.definitions.specs.Outcomes.{Found, ListOutcome, written, found_by, list_found, sheet_found, outcome_of}
use Rattle.definitions.specs.Boundary.{bytes_of, room_for_numbers, result_after, call_of, list_call, sheet_call}
use Rattle.theorems.specs.Answers.{asked_twice}
use Rattle.lists.specs.Tests.{both}
use Rattle.theorems.specs.Accepted.{accepted, plans_wanted_lem}
use Rattle.byte_areas.specs.Room.{cost_room, room_same, room_most}
use Rattle.byte_areas.specs.Costs.{held_costs, stored_costs}
use Rattle.answers.specs.declared.Counted.{Counted}
use Rattle.region_answers.specs.Found.{found_with, AsksTwelve}

-- The part of 64 places that is lent is as long as the room.
lent_long : (n room : ℕ) → n ≡ room → room ≤ 64 → length {A = ℕ} (take n (replicate 64 0)) ≡ room
lent_long n room e h = omega (arith, e, length-take n (replicate {A = ℕ} 64 0), length-replicate {A = ℕ} 64 0)

-- What the entry finds with the areas that the call lends it is what the call is to find.
module _ (file beds costs result part work : List ℕ) (room : length part ≡ cost_room (length costs) (length result)) (own : length work ≡ work_size) where
  abbrev region : Region
  region = region_of file

  -- Question 12 of the lent areas, and of the result area.
  abbrev call_long : Bool
  call_long = room_for_rows region 8 beds costs && room_for_numbers 1 result

  long_same : check_of file ≡ 0 → areas_long_enough region beds part work ≡ call_long
  unfolding areas_long_enough room_for_rows
  long_same e =
      let beds_long_lem = leb (region.plans_wanted * region.patient_count) (length beds) in
      let (some, few) = plans_wanted_lem region (accepted file e).region in
      ap₂ (λ a b. beds_long_lem && leb (region.plans_wanted * 1) a && b) room (le-leb work_size (length work) (omega arith))
      ∙ and-true (beds_long_lem && leb (region.plans_wanted * 1) (cost_room (length costs) (length result)))
      ∙ ap (λ b. beds_long_lem && b) (room_same region.plans_wanted (length costs) (length result) some few)
      ∙ sym (and_assoc beds_long_lem (leb (region.plans_wanted * 8) (length costs)) (leb (1 * 8) (length result)))

  module _ (found : Bool → Found) (twelve : AsksTwelve file found) where
    abbrev lent : Found
    lent = found (areas_long_enough region beds part work)

    found_same : lent ≡ found call_long
    found_same = go (check_of file) refl
      where
        go : (n : ℕ) → check_of file ≡ n → lent ≡ found call_long
        go zero e = ap found (long_same e)
        go (suc q) e = twelve.later q e _ _

    -- No more rows are found than there is room for.
    found_few : length lent.rows ≤ length part
    unfolding areas_long_enough room_for_rows
    found_few = go (areas_long_enough region beds part work) refl
      where
        go : (long : Bool) → areas_long_enough region beds part work ≡ long → length (found long).rows ≤ length part
        go false e = omega (arith, ap length twelve.short)
        go true e =
            let two = (both (leb (region.plans_wanted * region.patient_count) (length beds) && leb (region.plans_wanted * 1) (length part)) e).0 in
            let fits = leb-true (region.plans_wanted * 1) (length part) (both (leb (region.plans_wanted * region.patient_count) (length beds)) two).1 in
            omega (arith, twelve.most true, fits, mul-one region.plans_wanted)

    module _ {o : ListOutcome} (outcome : o ≡ outcome_of lent beds part work) where
      count : o.rows ≡ length lent.rows
      unfolding outcome_of
      count = ap (λ (o : ListOutcome). o.rows) outcome

      rows_room : (o.rows ≤ 64) × (o.rows * 8 ≤ length costs)
      rows_room =
          let most = room_most (length costs) (length result) in
          (omega (arith, count, found_few, most.0), omega (arith, count, found_few, most.1))

      called : (rest : List ℕ) {costs_after result_afterwards : List ℕ} → costs_after ≡ written 0 8 (bytes_of 8) (take o.rows (o.costs ++ rest)) costs
          → result_afterwards ≡ result_after (o.rows ∷ []) result
          → record { number = o.number; beds = o.beds; costs = costs_after; result = result_afterwards } ≡ call_of (found call_long) beds costs result
      unfolding outcome_of call_of
      called rest {costs_after} {result_afterwards} stored counted =
          let costs_same : o.costs ≡ written 0 1 (λ row. row.cost ∷ []) lent.rows part = ap (λ (o : ListOutcome). o.costs) outcome in
          let held : take (length lent.rows) o.costs ≡ map (λ row. row.cost) lent.rows = ap (take (length lent.rows)) costs_same ∙ held_costs lent.rows part found_few in
          let long : length lent.rows ≤ length o.costs =
          omega (arith, ap length held, length-map lent.rows (λ row. row.cost), length-take (length lent.rows) o.costs) in
          let kept : take (length lent.rows) (o.costs ++ rest) ≡ map (λ row. row.cost) lent.rows = take-append-le (length lent.rows) o.costs rest long ∙ held in
          let costs_stored : costs_after ≡ written 0 8 (λ row. bytes_of 8 row.cost) lent.rows costs =
          stored ∙ ap (λ k. written 0 8 (bytes_of 8) (take k (o.costs ++ rest)) costs) count ∙ stored_costs lent.rows (o.costs ++ rest) kept costs in
          let result_stored : result_afterwards ≡ result_after (length lent.rows ∷ []) result = counted ∙ ap (λ k. result_after (k ∷ []) result) count in
          (λ i. record { number = (outcome i).number; beds = (outcome i).beds; costs = costs_stored i; result = result_stored i })
          ∙ ap (λ f. call_of f beds costs result) found_same

-- The same with the areas that the call has of its own: the first of 64 places, as many as there is room for, and a work area of zeros.
module _ (file beds costs result : List ℕ) (n : ℕ) (room : n ≡ cost_room (length costs) (length result)) (found : Bool → Found) (twelve : AsksTwelve file found) where
  abbrev part : List ℕ
  part = take (n - 0) (replicate 64 0)

  abbrev own : List ℕ
  own = replicate work_size 0

  part_long : length part ≡ cost_room (length costs) (length result)
  part_long = lent_long (n - 0) (cost_room (length costs) (length result)) (omega (arith, room)) (room_most (length costs) (length result)).0

  own_long : length own ≡ work_size
  own_long = length-replicate {A = ℕ} work_size 0

  module _ {o : ListOutcome} (outcome : o ≡ outcome_of (found (areas_long_enough (region_of file) beds part own)) beds part own) {values : Counted} (said : (values.number ≡ o.number) × (values.count ≡ o.rows)) where
    -- There is room to store as many costs as the answer has rows.
    pub values_room : (values.count ≤ 64) × (values.count * 8 ≤ length costs)
    values_room = rw said.1 (rows_room file beds costs result part own part_long own_long found twelve outcome)

    -- The call, from what the entry gives and what is stored of it.
    pub values_called : (rest : List ℕ) {costs_after result_afterwards : List ℕ}
        → (costs_after ≡ written 0 8 (bytes_of 8) (take values.count (o.costs ++ rest)) costs) × (result_afterwards ≡ result_after (values.count ∷ []) result)
        → record { number = values.number; beds = o.beds; costs = costs_after; result = result_afterwards }
        ≡ call_of (found (room_for_rows (region_of file) 8 beds costs && room_for_numbers 1 result)) beds costs result
    values_called rest left =
        rw said.0
        (called file beds costs result part own part_long own_long found twelve outcome rest (rw said.1 at left.0) (rw said.1 at left.1))

-- Question 12 is asked of the result area and then of the others, or of both at once: the number is the same.
twelve_once : (first last : Asked) (width : ℕ) (rows : List Row) (room long : Bool)
    → found_by (first ++ (12, long && room) ∷ last) width rows ≡ found_by (first ++ (12, room) ∷ (12, long) ∷ last) width rows
twelve_once first last width rows room long = ap (found_with width rows) (sym (asked_twice first last 12 room long))

module _ (file beds costs result : List ℕ) where
  abbrev long : Bool
  long = room_for_rows (region_of file) 8 beds costs

  abbrev room : Bool
  room = room_for_numbers 1 result

  abbrev thirteen : Asked
  thirteen = (13, plan_allowed (region_of file)) ∷ []

  pub list_call_lem : call_of (list_found file (entry_asks (asked_by_list file (long && room)))) beds costs result ≡ list_call file beds costs result
  unfolding list_call list_found asked_by_list
  list_call_lem =
      let r = region_of file in
      ap (λ f. call_of f beds costs result) (twelve_once (asked_by_check file) thirteen r.patient_count (list_of r) room long)

  pub sheet_call_lem : (c : ℕ) → call_of (sheet_found file c (entry_asks (asked_by_sheet file c (long && room)))) beds costs result ≡ sheet_call file c beds costs result
  unfolding sheet_call sheet_found asked_by_sheet
  sheet_call_lem c =
      let r = region_of file in
      ap (λ f. call_of f beds costs result)
      (twelve_once (asked_by_check file ++ (11, clinic_present r c) ∷ []) thirteen (length (patients_of r c)) (sheet_of r c) room long)
