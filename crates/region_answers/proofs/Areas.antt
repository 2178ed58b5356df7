-- The lent areas of list and sheet: how long they are, and what is written to them.
use mathlib.Core.Path.{◌≡◌, sym, ap, ap₂, ◌∙◌}
use mathlib.Core.Bool.{and_assoc}
use Prim.Native.Nat.{◌≤◌}
use native.Mathlib.Nat.{mul-one}
use native.Mathlib.Omega.{arith}
use borrow.Author.Tests.{leb-true}
use Rattle.std.specs.Prelude.{◌*◌, ◌<◌, ◌&&◌, ◌∷◌}
use Rattle.definitions.specs.Basics.{ℕ, Bool, true, List, [], length, get_or, replicate, leb}
use Rattle.definitions.specs.Plans.{Row}
use Rattle.definitions.specs.Questions.{work_size, room_for_rows, areas_long_enough}
use Rattle.definitions.specs.Outcomes.{written, outcome_of}
use Rattle.lists.specs.Tests.{both}
use Rattle.lists.specs.Members.{◌∈◌, get_d_in}
use Rattle.theorems.specs.Accepted.{Accepted, most_total}
use Rattle.held_region.specs.declared.Region.{Region}
use Rattle.held_region.specs.Meaning.{said}
use Rattle.row_list.specs.Rows.{row_in, rows_in}
use Rattle.row_list.specs.Laws.{unpadded_long, unpadded_at}
use Rattle.row_writer.specs.Writing.{long_enough, RowsWritten}
use Rattle.search.specs.Trees.{AsksRegion}
use Rattle.region_answers.specs.Found.{outcome_with}

-- Question 12 of the areas is that of their lengths.
asked_same : (h : Region) (store beds costs work : List ℕ)
    → long_enough h.v h.m (length beds) (length costs) (length work) ≡ areas_long_enough (said h store) beds costs work
unfolding areas_long_enough room_for_rows said
asked_same h store beds costs work =
    ap (λ m. leb (h.m * h.v) (length beds) && (leb m (length costs) && leb work_size (length work))) (sym (mul-one h.m))
    ∙ sym (and_assoc (leb (h.m * h.v) (length beds)) (leb (h.m * 1) (length costs)) (leb work_size (length work)))

-- What question 12's yes says of each area.
areas_long : (v m beds costs work : ℕ) → long_enough v m beds costs work ≡ true → (m * v ≤ beds) × (m ≤ costs) × (work_size ≤ work)
areas_long v m beds costs work long =
    let (first, others) = both (leb (m * v) beds) long in
    let (second, third) = both (leb m costs) others in
    (leb-true (m * v) beds first, leb-true m costs second, leb-true work_size work third)

module _ (h : Region) (store : List ℕ) {long : Bool} (beds costs work : List ℕ) (asked : long ≡ long_enough h.v h.m (length beds) (length costs) (length work)) where
  pub question : {answer : Bool} → long ≡ answer → areas_long_enough (said h store) beds costs work ≡ answer
  question e = sym (asked_same h store beds costs work) ∙ sym asked ∙ e

  module _ (yes_twelve : long ≡ true) where
    pub all_long : (h.m * h.v ≤ length beds) × (h.m ≤ length costs) × (work_size ≤ length work)
    all_long = areas_long h.v h.m (length beds) (length costs) (length work) (sym asked ∙ yes_twelve)

    pub asks_list : Accepted (said h store) → AsksRegion h store work
    asks_list accepted = record { accepted = accepted; long = omega (arith, all_long.2) }

-- Rows that lie in an area.
module _ (v n : ℕ) (area : List ℕ) {rows : List Row} (is : rows_in v n area ≡ rows) where
  pub rows_counted : n ≡ length rows
  rows_counted = sym (unpadded_long v n area) ∙ ap length is

  -- Costs of at most `most_total` fit the 32 bits that they get.
  pub narrow : ((z : Row) → z ∈ rows → z.cost ≤ most_total) → (i : ℕ) → i < n → (row_in v area i).cost < 4_294_967_296
  narrow small i l =
      let d : Row = record { cost = 0; beds = [] } in
      let row : row_in v area i ≡ get_or rows i d = unpadded_at v n area i d l ∙ ap (λ z. get_or z i d) is in
      let most = small (get_or rows i d) (get_d_in rows i d (omega (arith, rows_counted))) in
      omega (arith, ap (λ (z : Row). z.cost) row, most)

  -- They are written out, and the work area is cleared.
  pub written_out : (width : ℕ) (beds costs work : List ℕ) {beds_after costs_after after : List ℕ} → v ≡ width → RowsWritten v n area beds costs beds_after costs_after
      → after ≡ replicate (length work) 0
      → record { number = 0; rows = n; beds = beds_after; costs = costs_after; work = after } ≡ outcome_with width rows beds costs work 0
  unfolding outcome_of
  written_out width beds costs work {beds_after} {costs_after} {after} wide rows_out zeros =
      let beds_same : beds_after ≡ written 0 width (λ row. row.beds) rows beds =
      rows_out.each_bed ∙ ap₂ (λ w l. written 0 w (λ row. row.beds) l beds) wide is in
      let costs_same : costs_after ≡ written 0 1 (λ row. row.cost ∷ []) rows costs = rows_out.each_cost ∙ ap (λ l. written 0 1 (λ row. row.cost ∷ []) l costs) is in
      λ i. record { number = 0; rows = rows_counted i; beds = beds_same i; costs = costs_same i; work = zeros i }
