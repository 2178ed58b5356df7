-- The list of a loaded region: what is written of it, and the answer.
use mathlib.Core.Path.{◌≡◌, refl, sym, ap, ◌∙◌}
use Prim.Native.Nat.{◌≤◌}
use native.Mathlib.Nat.{le_trans, mul-le-mul_right}
use native.Mathlib.Omega.{arith}
use Rattle.std.specs.Prelude.{Ok, Err, ◌∷◌}
use Rattle.definitions.specs.Basics.{ℕ, Bool, true, false, List, [], map, length, replicate}
use Rattle.definitions.specs.Syntax as Said
use Rattle.definitions.specs.Plans.{Row, list_of}
use Rattle.definitions.specs.Questions.{areas_long_enough}
use Rattle.definitions.specs.Outcomes.{written, outcome_of}
use Rattle.lists.specs.Members.{◌∈◌}
use Rattle.theorems.specs.Accepted.{Accepted, most_total}
use Rattle.theorems.proofs.Accepted.{total_small}
use Rattle.theorems.proofs.List.{list_first}
use Rattle.partial_rows.specs.Padding.{unpadded}
use Rattle.held_region.specs.declared.Region.{Region}
use Rattle.held_region.specs.Meaning.{said}
use Rattle.row_list.specs.Rows.{rows_in}
use Rattle.row_list.specs.Laws.{rows_take}
use Rattle.row_sums.specs.Sums.{work_part}
use Rattle.row_writer.specs.Writing.{long_enough, Writable, RowsWritten}
use Rattle.search.specs.Trees.{GivesRegion}
use Rattle.answers.specs.declared.ListError.TheVariants.{Short, Nothing}
use Rattle.answers.specs.Answers.{listed_outcome}
use Rattle.held_region.specs.Counts.{counts_few}
use Rattle.theorems.specs.PlanAllowed.{no_list}
use Rattle.theorems.proofs.PlanAllowed.{list_none, list_some}
use Rattle.region_answers.specs.Found.{last_asked, no_twelve, no_thirteen, no_refusal, asked_outcome}
use Rattle.region_answers.specs.Lists.{RegionListed}
use Rattle.region_answers.proofs.Areas.{question, all_long, rows_counted, narrow, written_out}

-- A list that was found, and where its rows lie.
module _ (h : Region) (store : List ℕ) (accepted : Accepted (said h store)) {n : ℕ} {work area : List ℕ} (gives : GivesRegion h store work area n) where
  pub most : n ≤ 64
  most = omega (arith, gives.count, (counts_few h store accepted).1)

  found : rows_in h.v n area ≡ list_of (said h store)
  unfolding work_part
  found = sym (ap (map (unpadded h.v)) (rows_take n 384 area (omega (arith, most)))) ∙ gives.list

  pub found_count : n ≡ length (list_of (said h store))
  found_count = rows_counted h.v n area found

  pub cleared : {after : List ℕ} → after ≡ replicate (length area) 0 → after ≡ replicate (length work) 0
  cleared e = e ∙ ap (λ k. replicate k 0) gives.long

-- Each total is at most `most_total`.
totals_small : (r : Said.Region) → Accepted r → (z : Row) → z ∈ list_of r → z.cost ≤ most_total
totals_small r accepted z k = total_small r accepted z.beds z.cost ((list_first r).sound k).priced

module _ (h : Region) (store : List ℕ) (accepted : Accepted (said h store)) {long : Bool} (beds costs work : List ℕ)
    (asked : long ≡ long_enough h.v h.m (length beds) (length costs) (length work)) where
  abbrev r : Said.Region
  r = said h store

  pub listed_short : long ≡ false → RegionListed r beds costs work (Err Short) beds costs work
  unfolding outcome_of
  listed_short e = asked_outcome _ _ beds costs work (last_asked r (areas_long_enough r beds costs work)) (no_twelve r (question h store beds costs work asked e))

  module _ (yes_twelve : long ≡ true) {n : ℕ} {area : List ℕ} (gives : GivesRegion h store work area n) where
    pub writable : Writable h.v n area beds costs
    writable =
        let (beds_long_lem, costs_long_lem, work_long) = all_long h store beds costs work asked yes_twelve in
        record {
          patients = (counts_few h store accepted).0;
          wanted = most h store accepted gives;
          held = omega (arith, most h store accepted gives, gives.long, work_long);
          beds_long = le_trans (mul-le-mul_right h.v gives.count) beds_long_lem;
          costs_long = le_trans gives.count costs_long_lem;
          narrow = narrow h.v n area (found h store accepted gives) (totals_small r accepted);
        }

    -- No row is written of an empty list.
    pub listed_nothing : n ≡ 0 → {beds_after costs_after after : List ℕ} → RowsWritten h.v n area beds costs beds_after costs_after → after ≡ replicate (length area) 0
        → RegionListed r beds costs work (Err Nothing) beds_after costs_after after
    unfolding outcome_of
    listed_nothing None-found {beds_after} {costs_after} rows zeros =
        let count = found_count h store accepted gives in
        let none_allowed_lem = list_none r accepted count None-found in
        let empty : rows_in h.v n area ≡ [] = found h store accepted gives ∙ no_list r accepted count None-found in
        let same_beds_lem : beds_after ≡ beds = rows.each_bed ∙ ap (λ l. written 0 h.v (λ row. row.beds) l beds) empty in
        let same_costs : costs_after ≡ costs = rows.each_cost ∙ ap (λ l. written 0 1 (λ row. row.cost ∷ []) l costs) empty in
        (λ i. listed_outcome (Err Nothing) (same_beds_lem i) (same_costs i) (cleared h store accepted gives zeros i))
        ∙ asked_outcome _ _ beds costs work (last_asked r (areas_long_enough r beds costs work)) (no_thirteen r (question h store beds costs work asked yes_twelve) none_allowed_lem)

    pub listed_rows_lem : (n ≡ 0 → ⊥) → {beds_after costs_after after : List ℕ} → RowsWritten h.v n area beds costs beds_after costs_after → after ≡ replicate (length area) 0
        → RegionListed r beds costs work (Ok n) beds_after costs_after after
    unfolding said
    listed_rows_lem some_found rows zeros =
        let allowed = list_some r accepted (found_count h store accepted gives) some_found in
        written_out h.v n area (found h store accepted gives) h.v beds costs work refl rows (cleared h store accepted gives zeros)
        ∙ asked_outcome _ _ beds costs work (last_asked r (areas_long_enough r beds costs work)) (no_refusal r (question h store beds costs work asked yes_twelve) allowed)
