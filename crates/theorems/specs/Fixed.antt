-- Request #102, in plain words: a plan that fits is allowed where the tables allow it and each fixed bed is kept, and fixed beds cost nothing.
use Rattle.std.proofs.Math.Path.{sym, ap}
use Rattle.std.proofs.Common.{ap₂, ◌∙◌, true≢false, append-nil, inl, inr, ltb-true, ◌+◌, ◌*◌, ◌<◌, ◌≡◌, ◌&&◌, ◌∷◌, ◌++◌}
use Rattle.std.specs.Prelude.{◌⊎◌}
use Rattle.std.proofs.Math.Option.{none-ne-some, some-injective}
use Rattle.std.proofs.Math.Decide.{dec_lt}
use native.Mathlib.Omega.{arith}
use Rattle.std.proofs.Math.ListN.{get_or-eq_default}
use Rattle.definitions.specs.Basics.{ℕ, refl, Bool, true, false, not, cond, Option, none, some, option_map, option_elim, none_or, is_some}
use Rattle.definitions.specs.Basics.{List, [], map, length, get_or, filter_map, eqb, below, every, keep}
use Rattle.definitions.specs.Syntax.{Table, Region, patient_numbers, patient_at}
use Rattle.definitions.specs.Plans.{Plan, bed_of, plans, plans_for, place, entry_for, cost_over, fixing, constraints, total}
use Rattle.definitions.specs.Questions.{plan_fits}
use Rattle.lists.specs.Tests.{both}
use Rattle.lists.specs.Members.{◌∈◌, here, there, in_append_cases}
use Rattle.lists.specs.Every.{every_at}
use Rattle.lists.specs.Maps.{filter_map_out}
use Rattle.lists.specs.Keep.{keep_append, keep_filter_map}
use Rattle.lists.specs.Below.{at_place, below_out, length_by_places, every_place}
use Rattle.theorems.specs.Sums.{plus, zero_plus, plus_if, halves, sum_over, sum_cons, sum_append}

-- ---- the cost of a fixed bed

-- The entry for a bed where one is fixed.
abbrev fixed_entry : ℕ → ℕ → Option ℕ
fixed_entry fixed bed = cond (eqb bed fixed) (some 0) none

-- Where a bed is fixed, this one costs nothing and any other is forbidden; where none is, every bed costs nothing.
abbrev pub keeping : ℕ → Option ℕ → ℕ → Option ℕ
keeping count none bed = some 0
keeping count (some fixed) bed = get_or (map (fixed_entry fixed) (below count)) bed none

abbrev pub fixed_cost : Region → Plan → ℕ → Option ℕ
fixed_cost region plan s = keeping (patient_at region s).bed_count (patient_at region s).fixed_bed (bed_of plan s)

-- May the patient have this bed?
abbrev pub permits : Region → ℕ → ℕ → Bool
permits region s bed = none_or (eqb bed) (patient_at region s).fixed_bed

keeping_fits : (count : ℕ) (o : Option ℕ) (bed : ℕ) → bed < count → keeping count o bed ≡ cond (none_or (eqb bed) o) (some 0) none
keeping_fits count none bed h = refl
keeping_fits count (some fixed) bed h = at_place (fixed_entry fixed) none count bed h

pub fixed_cost_lem : (region : Region) (plan : Plan) (s : ℕ) → bed_of plan s < (patient_at region s).bed_count
    → fixed_cost region plan s ≡ cond (permits region s (bed_of plan s)) (some 0) none
fixed_cost_lem region plan s h = keeping_fits (patient_at region s).bed_count (patient_at region s).fixed_bed (bed_of plan s) h

-- It never costs anything, also where the bed does not fit.
keeping_free : (count : ℕ) (o : Option ℕ) (bed n : ℕ) → keeping count o bed ≡ some n → n ≡ 0
keeping_free count none bed n e = sym (some-injective 0 n e)
keeping_free count (some fixed) bed n e = elim (dec_lt bed count) [
  | yes h ↦ go (eqb bed fixed) (sym (keeping_fits count (some fixed) bed h) ∙ e)
  | no h ↦ absurd (none-ne-some n (sym (get_or-eq_default (map (fixed_entry fixed) (below count)) none (omega (arith, length_by_places (fixed_entry fixed) 0 count))) ∙ e))
]
  where
    go : (b : Bool) → cond b (some 0) none ≡ some n → n ≡ 0
    go true q = sym (some-injective 0 n q)
    go false q = absurd (none-ne-some n q)

-- A patient's constraint has that patient alone as a member.
fixing_members : (region : Region) (s : ℕ) (t : Table) → fixing region s ≡ some t → t.members ≡ s ∷ []
unfolding fixing
fixing_members region s t e = go (patient_at region s).fixed_bed e
  where
    go : (o : Option ℕ) → option_map (λ fixed. record { members = s ∷ []; entries = map (fixed_entry fixed) (below (patient_at region s).bed_count) }) o ≡ some t → t.members ≡ s ∷ []
    go none q = absurd (none-ne-some t q)
    go (some fixed) q = ap (λ (u : Table). u.members) (sym (some-injective _ t q))

module _ (region : Region) (plan : Plan) where
  pub fixed_free : (l : List ℕ) (n : ℕ) → sum_over (fixed_cost region plan) l ≡ some n → n ≡ 0
  fixed_free [] n e = sym (some-injective 0 n e)
  fixed_free (s ∷ l) n e =
      let parts = halves (fixed_cost region plan s) (sum_over (fixed_cost region plan) l) n (sym (sum_cons (fixed_cost region plan) s l) ∙ e) in
      omega (arith, parts.whole, keeping_free (patient_at region s).bed_count (patient_at region s).fixed_bed (bed_of plan s) parts.x parts.left, fixed_free l parts.y parts.right)

  -- All are kept, or the plan is forbidden.
  pub fixed_costs : (l : List ℕ) → ((s : ℕ) → s ∈ l → bed_of plan s < (patient_at region s).bed_count)
      → sum_over (fixed_cost region plan) l ≡ cond (every (λ s. permits region s (bed_of plan s)) l) (some 0) none
  fixed_costs [] fits = refl
  fixed_costs (s ∷ l) fits =
      sum_cons (fixed_cost region plan) s l
      ∙ ap₂ plus (fixed_cost_lem region plan s (fits s (here refl))) (fixed_costs l (λ q k. fits q (there k)))
      ∙ go (permits region s (bed_of plan s)) (every (λ q. permits region q (bed_of plan q)) l)
    where
      go : (a b : Bool) → plus (cond a (some 0) none) (cond b (some 0) none) ≡ cond (a && b) (some 0) none
      go true true = refl
      go true false = refl
      go false b = refl

  -- ---- the constraints that fix beds

  entry_alone : (s : ℕ) (entries : List (Option ℕ)) → entry_for region plan (record { members = s ∷ []; entries = entries }) ≡ get_or entries (bed_of plan s) none
  unfolding entry_for place
  entry_alone s entries = let same : bed_of plan s * 1 + 0 ≡ bed_of plan s = omega arith in ap (λ n. get_or entries n none) same

  -- The constraints of some patients' fixed beds cost what their fixed beds do.
  pub cost_fixing : (l : List ℕ) → cost_over (filter_map (fixing region) l) region plan ≡ sum_over (fixed_cost region plan) l
  unfolding cost_over fixing filter_map option_elim
  cost_fixing [] = refl
  cost_fixing (s ∷ l) = go (patient_at region s).fixed_bed (cost_fixing l) ∙ sym (sum_cons (fixed_cost region plan) s l)
    where
      entries : ℕ → List (Option ℕ)
      entries fixed = map (fixed_entry fixed) (below (patient_at region s).bed_count)

      one : Option ℕ → Option Table
      one o = option_map (λ fixed. record { members = s ∷ []; entries = entries fixed }) o

      go : (o : Option ℕ) → sum_over (entry_for region plan) (filter_map (fixing region) l) ≡ sum_over (fixed_cost region plan) l
          → sum_over (entry_for region plan) (option_elim (one o) (filter_map (fixing region) l) (λ t. t ∷ filter_map (fixing region) l))
          ≡ plus (keeping (patient_at region s).bed_count o (bed_of plan s)) (sum_over (fixed_cost region plan) l)
      go none rest = rest ∙ sym (zero_plus (sum_over (fixed_cost region plan) l))
      go (some fixed) rest = sum_cons (entry_for region plan) (record { members = s ∷ []; entries = entries fixed }) (filter_map (fixing region) l) ∙ ap₂ plus (entry_alone s (entries fixed)) rest

  -- The total: what the tables cost, and what the fixed beds do.
  pub total_parts : total region plan ≡ plus (cost_over region.tables region plan) (sum_over (fixed_cost region plan) (patient_numbers region))
  unfolding total constraints cost_over
  total_parts = sum_append (entry_for region plan) region.tables (filter_map (fixing region) (patient_numbers region)) ∙ ap (plus (cost_over region.tables region plan)) (cost_fixing (patient_numbers region))

  -- The same of the constraints whose members pass a test.
  pub part_parts : (test : List ℕ → Bool) → cost_over (keep (λ t. test t.members) (constraints region)) region plan
      ≡ plus (cost_over (keep (λ t. test t.members) region.tables) region plan) (sum_over (fixed_cost region plan) (keep (λ s. test (s ∷ [])) (patient_numbers region)))
  unfolding constraints cost_over
  part_parts test =
      let kept : Table → Bool = λ t. test t.members in
      let fixings = filter_map (fixing region) (patient_numbers region) in
      let mine = keep (λ s. test (s ∷ [])) (patient_numbers region) in
      let alike = keep_filter_map (fixing region) kept (λ s. test (s ∷ [])) (λ s t e. ap test (fixing_members region s t e)) (patient_numbers region) in
      ap (sum_over (entry_for region plan)) (keep_append kept region.tables fixings)
      ∙ sum_append (entry_for region plan) (keep kept region.tables) (keep kept fixings)
      ∙ ap (plus (sum_over (entry_for region plan) (keep kept region.tables))) (ap (sum_over (entry_for region plan)) alike ∙ cost_fixing mine)

  -- What is allowed costs what its tables do.
  pub tables_alone : (o : Option ℕ) (l : List ℕ) (n : ℕ) → plus o (sum_over (fixed_cost region plan) l) ≡ some n → o ≡ some n
  tables_alone o l n e =
      let parts = halves o (sum_over (fixed_cost region plan) l) n e in
      let same : parts.x ≡ n = omega (arith, parts.whole, fixed_free l parts.y parts.right) in
      parts.left ∙ ap {B = Option ℕ} some same

  pub total_tables : (n : ℕ) → total region plan ≡ some n → cost_over region.tables region plan ≡ some n
  total_tables n e = tables_alone _ (patient_numbers region) n (sym total_parts ∙ e)

  pub part_tables : (test : List ℕ → Bool) (n : ℕ) → cost_over (keep (λ t. test t.members) (constraints region)) region plan ≡ some n
      → cost_over (keep (λ t. test t.members) region.tables) region plan ≡ some n
  part_tables test n e = tables_alone _ (keep (λ s. test (s ∷ [])) (patient_numbers region)) n (sym (part_parts test) ∙ e)

-- A constraint is a table, or that of one patient's fixed bed.
pub constraint_cases : (region : Region) (t : Table) → t ∈ constraints region → (t ∈ region.tables) ⊎ ((s : ℕ) × (s < length region.patients) × (t.members ≡ s ∷ []))
unfolding constraints
constraint_cases region t k = elim (in_append_cases region.tables k) [
  | inl h ↦ inl h
  | inr h ↦ inr (let (s, i, e) = filter_map_out (fixing region) (patient_numbers region) h in (s, below_out _ s i, fixing_members region s t e))
]

-- ---- the plain reading

-- Does the plan keep each fixed bed?
abbrev pub keeps_fixed : Region → Plan → Bool
keeps_fixed region plan = every (λ s. permits region s (bed_of plan s)) (patient_numbers region)

-- Of beds that are each below the count, and so of a plan that question 14 lets pass.
pub total_kept : (region : Region) (plan : Plan) → ((s : ℕ) → s < length region.patients → bed_of plan s < (patient_at region s).bed_count)
    → total region plan ≡ cond (keeps_fixed region plan) (cost_over region.tables region plan) none
total_kept region plan fits =
    total_parts region plan
    ∙ ap (plus (cost_over region.tables region plan)) (fixed_costs region plan (patient_numbers region) (λ s k. fits s (below_out (length region.patients) s k)))
    ∙ plus_if (cost_over region.tables region plan) (keeps_fixed region plan)

pub total_fixed : (region : Region) (plan : Plan) → plan_fits region plan ≡ true → total region plan ≡ cond (keeps_fixed region plan) (cost_over region.tables region plan) none
unfolding plan_fits
total_fixed region plan fits =
    let each = (both (eqb (length plan) region.patient_count) fits).1 in
    total_kept region plan (λ s h. ltb-true (bed_of plan s) (patient_at region s).bed_count (every_place _ (length region.patients) s each h))

-- Where all are free, the constraints are the tables; and fixed beds do not change which plans there are.
none_fixing : (region : Region) (l : List ℕ) → ((s : ℕ) → s ∈ l → (patient_at region s).fixed_bed ≡ none) → filter_map (fixing region) l ≡ []
unfolding filter_map option_elim fixing
none_fixing region [] h = refl
none_fixing region (s ∷ l) h = rw (h s (here refl)) (none_fixing region l (λ q k. h q (there k)))

pub all_free : (region : Region) → every (λ p. not (is_some p.fixed_bed)) region.patients ≡ true → constraints region ≡ region.tables
unfolding constraints patient_at
all_free region free =
    ap (λ (l : List Table). region.tables ++ l)
    (none_fixing region (patient_numbers region) (λ s k. no_bed (patient_at region s).fixed_bed (every_at _ region.patients s _ (below_out _ s k) free)))
    ∙ append-nil region.tables
  where
    no_bed : (o : Option ℕ) → not (is_some o) ≡ true → o ≡ none
    no_bed none e = refl
    no_bed (some b) e = absurd (true≢false (sym e))

pub same_plans : (r s : Region) → map (λ p. p.bed_count) r.patients ≡ map (λ p. p.bed_count) s.patients → plans r ≡ plans s
same_plans r s e = ap plans_for e
