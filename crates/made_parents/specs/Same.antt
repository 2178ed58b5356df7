-- Regions that differ only in parents have the same plans, totals, list and sheets, and questions 11 and 13 have the same answer.
use Rattle.std.specs.Prelude.{◌≡◌}
use Rattle.std.proofs.Common.{sym, ◌∙◌, ◌∷◌, ◌++◌}
use Rattle.std.proofs.Math.Path.{ap}
use Rattle.std.proofs.lemmas.Simd.{map-map}
use Rattle.definitions.specs.Basics.{ℕ, not, cond, Option, none, some, option_map, option_get_or, List, [], map, get_or, take, filter_map, is_some, is_empty, eqb, below, sum, any, keep, on_all, sort, first_occurrences}
use Rattle.definitions.specs.Syntax.{Patient, Table, Region, patient_numbers, patient_at, patients_of}
use Rattle.definitions.specs.Plans.{Plan, bed_of, plans_for, plans, place, entry_for, cost_over, fixing, constraints, total, Row, compare_rows, list_of}
use Rattle.definitions.specs.Sheets.{part, lowest, own_tables, own_cost, own_row, same_beds, sheet_of}
use Rattle.definitions.specs.Questions.{clinic_present, plan_allowed}
use Rattle.definitions.specs.Writer.{region_from}
use Rattle.definitions.specs.Parents.{parents_from, parents_made, with_parents}
use Rattle.lists.specs.Below.{by_number}
use Rattle.theorems.specs.Clinics.{present_asked}
use Rattle.made_parents.specs.Chosen.{Alike, chosen_alike}

-- What a function gives of all patients is what it gives of them by number.
by_patient : {A : Type 0} (r : Region) (f : Patient → A) → map (λ q. f (patient_at r q)) (patient_numbers r) ≡ map f r.patients
unfolding patient_at
by_patient r f = sym (map-map f (patient_at r) (patient_numbers r)) ∙ ap (map f) (by_number r.patients _)

-- Each definition reads of a region only what is alike.
module _ {r s : Region} (same : Alike r s) where
  alike_cost : (tables : List Table) (plan : Plan) → cost_over tables r plan ≡ cost_over tables s plan
  unfolding cost_over entry_for
  alike_cost tables plan = λ i. option_map sum (on_all (λ t. get_or t.entries (place (map (λ q. (same.bed_count q i, bed_of plan q)) t.members)) none) tables)

  pub alike_total : (plan : Plan) → total r plan ≡ total s plan
  unfolding total constraints fixing
  alike_total plan =
      let fixed : (q : ℕ) → fixing r q ≡ fixing s q =
      λ q i. option_map (λ bed. record { members = q ∷ []; entries = map (λ b. cond (eqb b bed) (some 0) none) (below (same.bed_count q i)) }) (same.fixed_bed q i) in
      ap (λ l. cost_over l r plan) (λ i. same.tables i ++ filter_map (λ q. fixed q i) (below (same.many i))) ∙ alike_cost (constraints s) plan

  alike_plans : plans r ≡ plans s
  alike_plans = ap plans_for (sym (by_patient r (λ p. p.bed_count)) ∙ (λ i. map (λ q. same.bed_count q i) (below (same.many i))) ∙ by_patient s (λ p. p.bed_count))

  pub alike_list : list_of r ≡ list_of s
  unfolding list_of
  alike_list = λ i. take (same.plans_wanted i) (sort compare_rows (filter_map (λ plan. option_map (λ t. record { cost = t; beds = plan }) (alike_total plan i)) (alike_plans i)))

  pub alike_patients : (c : ℕ) → patients_of r c ≡ patients_of s c
  unfolding patients_of
  alike_patients c = λ i. keep (λ q. eqb (same.clinic q i) c) (below (same.many i))

  alike_row : (c : ℕ) (w : Row) → own_row r c w ≡ own_row s c w
  unfolding own_row own_cost own_tables part
  alike_row c w =
      let own : own_tables r c ≡ own_tables s c = λ i. keep (λ t. eqb (same.clinic (lowest t.members) i) c) (same.tables i) in
      let cost = ap (λ l. cost_over l r w.beds) own ∙ alike_cost (own_tables s c) w.beds in
      λ i. record { cost = option_get_or (cost i) 0; beds = map (bed_of w.beds) (alike_patients c i) }

  pub alike_sheet : (c : ℕ) → sheet_of r c ≡ sheet_of s c
  unfolding sheet_of
  alike_sheet c = λ i. first_occurrences same_beds [] (map (λ w. alike_row c w i) (alike_list i))

  -- 11 and 13.
  pub alike_present : (c : ℕ) → clinic_present r c ≡ clinic_present s c
  alike_present c = present_asked r c ∙ ap (λ l. not (is_empty l)) (alike_patients c) ∙ sym (present_asked s c)

  pub alike_allowed : plan_allowed r ≡ plan_allowed s
  unfolding plan_allowed
  alike_allowed = λ i. any (λ plan. is_some (alike_total plan i)) (alike_plans i)

-- ---- other parents

module _ (r : Region) (choice : List (Option ℕ)) where
  pub parents_list : list_of (with_parents r choice) ≡ list_of r
  parents_list = alike_list (chosen_alike r choice)

  pub parents_sheet : (c : ℕ) → sheet_of (with_parents r choice) c ≡ sheet_of r c
  parents_sheet = alike_sheet (chosen_alike r choice)

  pub parents_total : (plan : Plan) → total (with_parents r choice) plan ≡ total r plan
  parents_total = alike_total (chosen_alike r choice)

-- The parents that are made read no parents.
pub alike_made : {r s : Region} → Alike r s → with_parents r (parents_made r) ≡ with_parents s (parents_made s)
unfolding with_parents
alike_made same = λ i.
    let parents = parents_from (map (λ t. t.members) (same.tables i)) (same.many i) in
    region_from (same.plans_wanted i) (map (λ q. record {
      clinic = same.clinic q i;
      bed_count = same.bed_count q i;
      parent = get_or parents q none;
      fixed_bed = same.fixed_bed q i;
    }) (below (same.many i))) (same.tables i)
