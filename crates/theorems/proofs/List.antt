-- Demand 2: the list is the one that the plans, their totals and their order determine.
use Rattle.std.proofs.Common.{sym, ap, ◌∙◌, inl, inr, true≢false, arith, ltb-true, lt-ltb, ◌+◌, ◌<◌, ◌≡◌, ◌∷◌, ◌&&◌}
use Rattle.std.specs.Prelude.{◌⊎◌, ◌↔◌, ◌≤◌}
use mathlib.Core.List.{head-eq_of_cons-eq, tail-eq_of_cons-eq}
use Rattle.std.proofs.Math.Option.{none-ne-some}
use Rattle.std.proofs.Math.Dec.{eqb-suc-suc, eqb-suc-zero, eqb-zero-suc}
use Rattle.definitions.specs.Basics.{ℕ, suc, min, refl, Bool, true, false, Option, none, some, option_map}
use Rattle.definitions.specs.Basics.{option_elim, List, [], map, length, filter_map, below, is_some, every, keep, get_or, cond, eqb, ltb}
use Rattle.definitions.specs.Syntax.{Patient, Region, patient_at}
use Rattle.definitions.specs.Plans.{Plan, plans_for, plans, total, allowed, Row, row_of, list_of}
use Rattle.definitions.specs.Questions.{plan_allowed, plan_fits}
use Rattle.lists.specs.Tests.{both, join}
use Rattle.lists.specs.Members.{◌∈◌, Enumerates, distinct_map, here, here_or_there, none_in_nil}
use Rattle.lists.specs.Every.{any_false}
use Rattle.lists.specs.Maps.{filter_map_out, filter_map_in, filter_map_distinct}
use Rattle.lists.specs.Below.{numbers_enumerate, every_shift}
use Rattle.ranking.specs.First.{FullBefore, First, sorted_distinct}
use Rattle.ranking.proofs.First.{first_unique}
use Rattle.ranking.proofs.Sorting.{first_of, first_count_lem}
use Rattle.ranking.specs.Combining.{Combined, cross_enumerates}
use Rattle.theorems.specs.List.{row_order, Fits, Allowed, by_beds, RightList, OnlyList}

-- ---- the enumeration holds every plan, each once

-- One more patient: each bed with each plan of the others.
more_plans : (d : ℕ) (ds : List ℕ) → Enumerates (Fits ds) (plans_for ds) → Enumerates (Fits (d ∷ ds)) (plans_for (d ∷ ds))
unfolding plans_for
more_plans d ds rest = record {
  distinct = all.distinct;
  only = λ z k. let c = all.only z k in rw c.is (omega (arith, (beds.only c.left c.in_left).1), rest.only c.right c.in_right);
  every = every;
}
  where
    beds : Enumerates (λ x. (0 ≤ x) × (x < 0 + d)) (below d)
    beds = numbers_enumerate 0 d

    all : Enumerates (Combined ◌∷◌ (λ b. b ∈ below d) (λ z. z ∈ plans_for ds)) (plans_for (d ∷ ds))
    all = cross_enumerates ◌∷◌ (λ a x b y i j u v e. (head-eq_of_cons-eq e, tail-eq_of_cons-eq e)) beds.distinct rest.distinct

    every : (z : Plan) → Fits (d ∷ ds) z → z ∈ plans_for (d ∷ ds)
    every [] h = absurd h
    every (b ∷ z) h = all.every (b ∷ z) (record {
      left = b;
      right = z;
      in_left = beds.every b (omega arith, omega (arith, h.0));
      in_right = rest.every z h.1;
      is = refl;
    })

pub plans_enumerate : (ds : List ℕ) → Enumerates (Fits ds) (plans_for ds)
unfolding plans_for
plans_enumerate [] = record {
  distinct = (none_in_nil, tt);
  only = λ z k. elim (here_or_there k) [ inl e ↦ rw e tt | inr t ↦ absurd (none_in_nil t) ];
  every = empty_plan;
}
  where
    empty_plan : (z : Plan) → Fits [] z → z ∈ [] ∷ []
    empty_plan [] h = here refl
    empty_plan (b ∷ z) h = absurd h
plans_enumerate (d ∷ ds) = more_plans d ds (plans_enumerate ds)

-- These are the plans that question 14 lets pass.
beds_fit_lem : (ps : List Patient) (d : Patient) (plan : Plan)
    → ((eqb (length plan) (length ps) && every (λ s. ltb (get_or plan s 0) (get_or ps s d).bed_count) (below (length ps))) ≡ true)
    ↔ Fits (map (λ p. p.bed_count) ps) plan
beds_fit_lem [] d [] = (λ e. tt, λ h. refl)
beds_fit_lem [] d (b ∷ plan) = (λ e. absurd (true≢false (sym (rw (eqb-suc-zero (length plan)) at e))), λ h. absurd h)
beds_fit_lem (p ∷ ps) d [] = (λ e. absurd (true≢false (sym (rw (eqb-zero-suc (length ps)) at e))), λ h. absurd h)
beds_fit_lem (p ∷ ps) d (b ∷ plan) = rw (eqb-suc-suc, every_shift (λ s. ltb (get_or (b ∷ plan) s 0) (get_or (p ∷ ps) s d).bed_count) 0 (length ps)) (go (beds_fit_lem ps d plan))
  where
    long : Bool
    long = eqb (length plan) (length ps)

    bed : Bool
    bed = ltb b p.bed_count

    rest : Bool
    rest = every (λ s. ltb (get_or plan s 0) (get_or ps s d).bed_count) (below (length ps))

    go : ((long && rest) ≡ true) ↔ Fits (map (λ p. p.bed_count) ps) plan
        → ((long && (bed && rest)) ≡ true) ↔ ((b < p.bed_count) × Fits (map (λ p. p.bed_count) ps) plan)
    go ih = (
      λ e. let (l, r) = both long e in (ltb-true b p.bed_count (both bed r).0, ih.0 (join l (both bed r).1)),
      λ h. let e = ih.1 h.1 in join (both long e).0 (join (lt-ltb b p.bed_count h.0) (both long e).1),
    )

pub plan_fits_lem : (region : Region) (plan : Plan) → length region.patients ≡ region.patient_count
    → (plan_fits region plan ≡ true) ↔ Fits (map (λ p. p.bed_count) region.patients) plan
unfolding plan_fits patient_at
plan_fits_lem region plan e = rw (← e) (beds_fit_lem region.patients _ plan)

-- ---- the rows of allowed plans, each once

-- The row of a plan has its beds and its total, and a plan has a row only where it has a total.
row_out : (region : Region) (plan : Plan) (w : Row) → row_of region plan ≡ some w → (w.beds ≡ plan) × (total region plan ≡ some w.cost)
row_out region plan w e = go (total region plan) refl e
  where
    go : (o : Option ℕ) → total region plan ≡ o → option_map (λ t. record { cost = t; beds = plan }) o ≡ some w → (w.beds ≡ plan) × (o ≡ some w.cost)
    go none q e = absurd (none-ne-some w e)
    go (some t) q e = let r : w ≡ record { cost = t; beds = plan } = cc in (ap (λ (v : Row). v.beds) r, ap {B = Option ℕ} (λ v. some v.cost) (sym r))

row_in : (region : Region) (w : Row) → total region w.beds ≡ some w.cost → row_of region w.beds ≡ some w
row_in region w e = ap (option_map (λ t. record { cost = t; beds = w.beds })) e

pub rows_enumerate : (region : Region) → Enumerates (Allowed region) (filter_map (row_of region) (plans region))
rows_enumerate region = record {
  distinct = filter_map_distinct (row_of region) (plans region) (λ x y w e q. sym (row_out region x w e).0 ∙ (row_out region y w q).0) all.distinct;
  only = λ w k.
      let (plan, i, e) = filter_map_out (row_of region) (plans region) k in
      let (b, t) = row_out region plan w e in
      record { fits = rw b (all.only plan i); priced = rw b t };
  every = λ w a. filter_map_in (row_of region) (plans region) (all.every w.beds a.fits) (row_in region w a.priced);
}
  where
    all : Enumerates (Fits (map (λ p. p.bed_count) region.patients)) (plans region)
    all = plans_enumerate (map (λ p. p.bed_count) region.patients)

-- ---- the list

pub list_first : (region : Region) → First row_order region.plans_wanted (Allowed region) (list_of region)
unfolding list_of
list_first region = first_of (rows_enumerate region)

rows_count : (region : Region) (l : List Plan) → length (filter_map (row_of region) l) ≡ length (keep (allowed region) l)
unfolding filter_map option_elim
rows_count region [] = refl
rows_count region (plan ∷ l) = go (total region plan) (rows_count region l)
  where
    rest : List Row
    rest = filter_map (row_of region) l

    go : (o : Option ℕ) → length rest ≡ length (keep (allowed region) l)
        → length (option_elim (option_map (λ t. record { cost = t; beds = plan }) o) rest (λ w. w ∷ rest))
        ≡ length (cond (is_some o) (plan ∷ keep (allowed region) l) (keep (allowed region) l))
    go none ih = ih
    go (some t) ih = ap suc ih

pub right_list : (region : Region) → RightList region (list_of region)
right_list region = let h = list_first region in record {
  in_order = h.sorted;
  each_once = distinct_map (λ w. w.beds) (list_of region) (λ v w i j e. by_beds region (h.sound i) (h.sound j) e) (sorted_distinct row_order (list_of region) h.sorted);
  only_allowed = λ w k. h.sound k;
  others_after = h.complete;
  count = first_count_lem (rows_enumerate region) h ∙ ap (min region.plans_wanted) (rows_count region (plans region));
}

pub only_list : OnlyList
only_list region l r = first_unique {O = row_order} (record {
  sorted = r.in_order;
  sound = λ {z} k. r.only_allowed z k;
  short = omega (arith, r.count);
  complete = r.others_after;
}) (list_first region)

-- ---- number 13

-- Question 13 is answered no exactly where no plan is allowed.
pub none_allowed_lem : (region : Region) → (plan_allowed region ≡ false) ↔ ((w : Row) → Allowed region w → ⊥)
unfolding plan_allowed
none_allowed_lem region = (
  λ e w a. true≢false (ap is_some (sym a.priced) ∙ (any_false (allowed region) (plans region)).0 e w.beds (all.every w.beds a.fits)),
  λ h. (any_false (allowed region) (plans region)).1 (λ plan i. go plan (all.only plan i) (total region plan) refl h),
)
  where
    all : Enumerates (Fits (map (λ p. p.bed_count) region.patients)) (plans region)
    all = plans_enumerate (map (λ p. p.bed_count) region.patients)

    go : (plan : Plan) → Fits (map (λ p. p.bed_count) region.patients) plan → (o : Option ℕ) → total region plan ≡ o → ((w : Row) → Allowed region w → ⊥) → is_some o ≡ false
    go plan f none e h = refl
    go plan f (some t) e h = absurd (h (record { cost = t; beds = plan }) (record { fits = f; priced = e }))

-- So where at least one plan is wanted, the list is empty exactly then.
pub list_empty : (region : Region) → 0 < region.plans_wanted → (list_of region ≡ []) ↔ (plan_allowed region ≡ false)
list_empty region wanted = (
  λ e. (none_allowed_lem region).1 (λ w a. go w ((list_first region).complete w a) e),
  λ e. no_rows (list_of region) (λ w k. (none_allowed_lem region).0 e w ((list_first region).sound k)),
)
  where
    go : (w : Row) → (w ∈ list_of region) ⊎ FullBefore row_order region.plans_wanted (list_of region) w → list_of region ≡ [] → ⊥
    go w (inl k) e = none_in_nil (rw e at k)
    go w (inr c) e = omega (arith, wanted, c.full, ap length e)

    no_rows : (l : List Row) → ((w : Row) → w ∈ l → ⊥) → l ≡ []
    no_rows [] h = refl
    no_rows (w ∷ l) h = absurd (h w (here refl))
