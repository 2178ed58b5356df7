-- What check's 0 says, and what an accepted region has: small counts, known members, and totals of at most `most_total`.
-- (Theorems that rest on these stand in `proofs/Accepted.antt`.)
use Rattle.std.specs.Prelude.{◌≡◌, ◌⊎◌, ◌≤◌}
use Rattle.std.proofs.Math.Path.{refl, sym}
use Rattle.std.proofs.Common.{ap, ◌∙◌, subst, true≢false, le_trans, mul-le-mul_right, ◌*◌, ◌<◌, ◌&&◌, ◌||◌, ◌∷◌}
use Rattle.std.proofs.Math.Logic.{inl, inr}
use Rattle.std.proofs.Math.Option.{none-ne-some}
use Rattle.std.proofs.Math.Decide.{dec_lt}
use native.Mathlib.Omega.{arith}
use borrow.Author.Tests.{leb-true, ltb-true, eqb-true}
use Rattle.std.proofs.Math.ListN.{get_or-eq_default}
use Rattle.definitions.specs.Basics.{ℕ, Bool, true, false, Option, none, some, option_get_or}
use Rattle.definitions.specs.Basics.{List, [], map, length, get_or, leb, ltb, eqb, sum, product, every, every_two, keep, contains, none_or, is_some}
use Rattle.definitions.specs.Limits.{Field, patient_count, table_count, plans_wanted, clinic, bed_count, member_count, entry_count, entry, limits, within}
use Rattle.definitions.specs.Syntax.{Patient, Table, Region, patient_numbers, patient_at, bed_counts}
use Rattle.definitions.specs.Layout.{layout}
use Rattle.definitions.specs.Plans.{Plan, entry_for, cost_over, constraints}
use Rattle.definitions.specs.Questions.{short_enough, laid_out, counts_true, sum_true, counts_within, patients_within, parents_smaller, members_right, entry_counts_right, entries_within, members_related}
use Rattle.definitions.specs.Questions.{ancestors, region_of, asked_of_region, asked_by_check, check_of}
use Rattle.lists.specs.Tests.{both, join}
use Rattle.lists.specs.Members.{◌∈◌, get_d_in, here, there, here_or_there, none_in_nil, in_map_cases}
use Rattle.lists.specs.Every.{every_in, every_two_in, every_some, contains_out}
use Rattle.lists.specs.Keep.{keep_out, keep_short}
use Rattle.lists.specs.Maps.{product_some}
use Rattle.lists.specs.Below.{below_in, by_number}
use Rattle.theorems.specs.Answers.{all_yes}
use Rattle.theorems.specs.Refusals.{check_says}
use Rattle.theorems.specs.Sums.{halves, sum_over, sum_cons}
use Rattle.theorems.specs.Fixed.{constraint_cases}

-- Questions 3 and 5 to 10 of a region are answered yes.
pub record Accepted (r : Region) : Type 0 where
  pub counted : counts_true r ≡ true
  pub counts_fit : counts_within r ≡ true
  pub patients_fit : patients_within r ≡ true
  pub parents_fit : parents_smaller r ≡ true
  pub members_fit : members_right r ≡ true
  pub entry_counts_fit : entry_counts_right r ≡ true
  pub entries_fit : entries_within r ≡ true
  pub related : members_related r ≡ true

-- All questions that check asks of a file are answered yes.
pub record AcceptedFile (file : List ℕ) : Type 0 where
  pub short : short_enough file ≡ true
  pub laid : laid_out file ≡ true
  pub summed : sum_true file (region_of file) ≡ true
  pub region : Accepted (region_of file)

-- What question 3 says.
pub counts_true_lem : (r : Region) → counts_true r ≡ true → (length r.patients ≡ r.patient_count) × (length r.tables ≡ r.table_count)
unfolding counts_true
counts_true_lem r counted = let (v, t) = both (eqb (length r.patients) r.patient_count) counted in (eqb-true _ _ v, eqb-true _ _ t)

-- Questions 5 to 10 of a region whose counts are true are answered yes: it is accepted.
pub asked_accepted : (r : Region) → counts_true r ≡ true → all_yes (asked_of_region r) ≡ true → Accepted r
asked_accepted r counted all =
    let (q5, r5) = both (counts_within r) all in
    let (q6, r6) = both (patients_within r && parents_smaller r) r5 in
    let (q7, r7) = both (members_right r) r6 in
    let (q8, r8) = both (entry_counts_right r) r7 in
    let (q9, r9) = both (entries_within r) r8 in
    record {
      counted = counted;
      counts_fit = q5;
      patients_fit = (both (patients_within r) q6).0;
      parents_fit = (both (patients_within r) q6).1;
      members_fit = q7;
      entry_counts_fit = q8;
      entries_fit = q9;
      related = (both (members_related r) r9).0;
    }

pub accepted_asked : (r : Region) → Accepted r → all_yes (asked_of_region r) ≡ true
accepted_asked r a =
    join a.counts_fit (join (join a.patients_fit a.parents_fit) (join a.members_fit (join a.entry_counts_fit (join a.entries_fit (join a.related refl)))))

pub accepted : (file : List ℕ) → check_of file ≡ 0 → AcceptedFile file
unfolding asked_by_check
accepted file e =
    let (q1, r1) = both (short_enough file) ((check_says file).accepted.0 e) in
    let (q2, r2) = both (laid_out file) r1 in
    let (q3, r3) = both (counts_true (region_of file)) r2 in
    let (q4, r4) = both (sum_true file (region_of file)) r3 in
    record { short = q1; laid = q2; summed = q4; region = asked_accepted (region_of file) q3 r4 }

-- The most that a plan can cost: as many tables as there may be, each at the highest price.
abbrev pub most_total : ℕ
most_total = 64_000_000

pub most_total_lem : most_total ≡ (limits table_count).highest * (limits entry).highest
unfolding limits
most_total_lem = refl

-- The file says its region.
pub some_of : {A : Type 0} (o : Option A) (d : A) → is_some o ≡ true → o ≡ some (option_get_or o d)
some_of none d e = absurd (true≢false (sym e))
some_of (some a) d e = refl

pub region_said_lem : (file : List ℕ) → laid_out file ≡ true → layout file ≡ some (region_of file)
unfolding laid_out region_of
region_said_lem file h = some_of (layout file) _ h

-- What is within a field's limits.
module _ (field : Field) (n : ℕ) (h : within field n ≡ true) where
  pub at_least : (limits field).lowest ≤ n
  unfolding within
  at_least = leb-true (limits field).lowest n (both (leb (limits field).lowest n) h).0

  pub at_most : n ≤ (limits field).highest
  unfolding within
  at_most = leb-true n (limits field).highest (both (leb (limits field).lowest n) h).1

-- ---- counts, patients and tables

-- What question 6 says of a patient, but for its parent.
pub record PatientRight (p : Patient) : Type 0 where
  pub clinic_fits : within clinic p.clinic ≡ true
  pub beds_fit : within bed_count p.bed_count ≡ true
  pub fixed_fits : (bed : ℕ) → p.fixed_bed ≡ some bed → bed < p.bed_count

pub patient_right : (r : Region) → patients_within r ≡ true → {p : Patient} → p ∈ r.patients → PatientRight p
unfolding patients_within
patient_right r fits {p} k =
    let (two, fixed) = both (within clinic p.clinic && within bed_count p.bed_count) (every_in _ r.patients fits k) in
    let (first, second) = both (within clinic p.clinic) two in
    record {
      clinic_fits = first;
      beds_fit = second;
      fixed_fits = λ bed e. ltb-true bed p.bed_count (ap (none_or (λ b. ltb b p.bed_count)) (sym e) ∙ fixed);
    }

-- What questions 7 to 9 say of a table.
pub record TableRight (r : Region) (t : Table) : Type 0 where
  pub some : 0 < length t.members
  pub few : length t.members ≤ 4
  pub known : {s : ℕ} → s ∈ t.members → s < length r.patients
  pub rising : every_two ltb t.members ≡ true
  pub counted : length t.entries ≡ product (bed_counts r t.members)
  pub within : every (none_or (within entry)) t.entries ≡ true

pub member_at_lem : {r : Region} {t : Table} → TableRight r t → (j : ℕ) → j < length t.members → get_or t.members j 0 < length r.patients
member_at_lem {t} right j h = right.known (get_d_in t.members j 0 h)

-- Who has a parent is a patient, and the parent's number is smaller.
pub parent_below : (r : Region) → parents_smaller r ≡ true → (s p : ℕ) → (patient_at r s).parent ≡ some p → (s < length r.patients) × (p < s)
unfolding parents_smaller patient_at
parent_below r smaller s p e = elim (dec_lt s (length r.patients)) [
  | yes h ↦ (h, ltb-true p s (ap (none_or (λ q. ltb q s)) (sym e) ∙ every_in _ (patient_numbers r) smaller (below_in _ h)))
  | no h ↦ absurd (none-ne-some p (sym (ap (λ (x : Patient). x.parent) (get_or-eq_default r.patients _ (omega arith))) ∙ e))
]

module _ (r : Region) (a : Accepted r) where
  -- There are as many patients and tables as the first line says.
  pub patients_counted_lem : length r.patients ≡ r.patient_count
  patients_counted_lem = (counts_true_lem r a.counted).0

  pub tables_counted_lem : length r.tables ≡ r.table_count
  tables_counted_lem = (counts_true_lem r a.counted).1

  pub counts_within_lem : (within patient_count r.patient_count ≡ true) × (within table_count r.table_count ≡ true) × (within plans_wanted r.plans_wanted ≡ true)
  unfolding counts_within
  counts_within_lem =
      let (two, plans) = both (within patient_count r.patient_count && within table_count r.table_count) a.counts_fit in
      let (patients, tables) = both (within patient_count r.patient_count) two in
      (patients, tables, plans)

  pub patients_few : length r.patients ≤ 32
  unfolding limits
  patients_few = omega (arith, patients_counted_lem, at_most patient_count r.patient_count counts_within_lem.0)

  pub tables_few : length r.tables ≤ 64
  unfolding limits
  tables_few = omega (arith, tables_counted_lem, at_most table_count r.table_count counts_within_lem.1)

  pub plans_wanted_lem : (0 < r.plans_wanted) × (r.plans_wanted ≤ 64)
  unfolding limits
  plans_wanted_lem = (at_least plans_wanted r.plans_wanted counts_within_lem.2, at_most plans_wanted r.plans_wanted counts_within_lem.2)

  -- A patient has from 1 to 16 beds.
  pub beds_within : {p : Patient} → p ∈ r.patients → (1 ≤ p.bed_count) × (p.bed_count ≤ 16)
  unfolding limits
  beds_within {p} k =
      let fits = (patient_right r a.patients_fit k).beds_fit in
      (at_least bed_count p.bed_count fits, at_most bed_count p.bed_count fits)

  pub beds_some : (s : ℕ) → s < length r.patients → 1 ≤ (patient_at r s).bed_count
  unfolding patient_at
  beds_some s h = (beds_within (get_d_in r.patients s _ h)).0

  pub beds_few : (s : ℕ) → s < length r.patients → (patient_at r s).bed_count ≤ 16
  unfolding patient_at
  beds_few s h = (beds_within (get_d_in r.patients s _ h)).1

  -- A parent is a patient.
  pub parent_known : {p : Patient} → p ∈ r.patients → (q : ℕ) → p.parent ≡ some q → q < length r.patients
  unfolding patient_at
  parent_known {p} k q e =
      let (s, i, is) = in_map_cases (patient_at r) (patient_numbers r) (subst (λ l. p ∈ l) (sym (by_number r.patients _)) k) in
      let (inside, smaller) = parent_below r a.parents_fit s q (ap (λ (x : Patient). x.parent) is ∙ e) in
      omega arith

  pub table_right : {t : Table} → t ∈ r.tables → TableRight r t
  unfolding members_right entry_counts_right entries_within limits
  table_right {t} k =
      let below = every (λ s. ltb s r.patient_count) t.members in
      let (two, rising) = both (within member_count (length t.members) && below) (every_in _ r.tables a.members_fit k) in
      let (count, known) = both (within member_count (length t.members)) two in
      let counted = (both (every (λ t. eqb (length t.entries) (product (bed_counts r t.members))) r.tables) a.entry_counts_fit).0 in
      record {
        some = at_least member_count (length t.members) count;
        few = at_most member_count (length t.members) count;
        known = λ {s} i. omega (arith, patients_counted_lem, ltb-true s r.patient_count (every_in _ t.members known i));
        rising = rising;
        counted = eqb-true _ _ (every_in _ r.tables counted k);
        within = every_in _ r.tables a.entries_fit k;
      }

  pub entries_few : sum (map (λ t. length t.entries) r.tables) ≤ 4096
  unfolding entry_counts_right limits
  entries_few = at_most entry_count _ (both (every (λ t. eqb (length t.entries) (product (bed_counts r t.members))) r.tables) a.entry_counts_fit).1

  pub entries_some : {t : Table} → t ∈ r.tables → 0 < length t.entries
  entries_some {t} k =
      let right = table_right k in
      omega (arith, right.counted, product_some (λ s. (patient_at r s).bed_count) t.members (λ s i. beds_some s (right.known i)))

  pub entry_small : {t : Table} → t ∈ r.tables → (plan : Plan) (e : ℕ) → entry_for r plan t ≡ some e → e ≤ 1_000_000
  unfolding entry_for limits
  entry_small {t} k plan e is = at_most entry e (every_some (none_or (within entry)) t.entries _ e (table_right k).within is)

-- ---- what the total goes over

-- The sum of some entries, each at most 1,000,000.
cost_most : (region : Region) (plan : Plan) (tables : List Table) → ((t : Table) → t ∈ tables → (e : ℕ) → entry_for region plan t ≡ some e → e ≤ 1_000_000)
    → (n : ℕ) → cost_over tables region plan ≡ some n → n ≤ length tables * 1_000_000
unfolding cost_over
cost_most region plan [] small n e = let z : n ≡ 0 = cc in omega arith
cost_most region plan (t ∷ tables) small n e =
    let parts = halves (entry_for region plan t) (sum_over (entry_for region plan) tables) n (sym (sum_cons (entry_for region plan) t tables) ∙ e) in
    let later = cost_most region plan tables (λ u k. small u (there k)) parts.y parts.right in
    omega (arith, parts.whole, small t (here refl) parts.x parts.left, later)

-- A list of one holds that one.
only_one : {l : List ℕ} {s q : ℕ} → l ≡ s ∷ [] → q ∈ l → q ≡ s
only_one {s = s} {q} e k = elim (here_or_there (subst (λ (m : List ℕ). q ∈ m) e k)) [ inl h ↦ h | inr h ↦ absurd (none_in_nil h) ]

module _ (r : Region) (a : Accepted r) where
  -- Each constraint has a member, its members are patients, and any two are the same or one is an ancestor of the other.
  pub constraint_held : (t : Table) → t ∈ constraints r → (s : ℕ) × (s ∈ t.members)
  constraint_held t k = elim (constraint_cases r t k) [
    | inl h ↦ (get_or t.members 0 0, get_d_in t.members 0 0 (table_right r a h).some)
    | inr h ↦ (h.0, subst (λ (l : List ℕ). h.0 ∈ l) (sym h.2) (here refl))
  ]

  pub constraint_known : (t : Table) → t ∈ constraints r → (s : ℕ) → s ∈ t.members → s < length r.patients
  constraint_known t k s i = elim (constraint_cases r t k) [
    | inl h ↦ (table_right r a h).known i
    | inr h ↦ omega (arith, only_one h.2 i, h.1)
  ]

  pub constraint_related : (t : Table) → t ∈ constraints r → (s q : ℕ) → s ∈ t.members → q ∈ t.members
      → (s ≡ q) ⊎ ((q ∈ ancestors r s) ⊎ (s ∈ ancestors r q))
  unfolding members_related
  constraint_related t k s q i j = elim (constraint_cases r t k) [
    | inl h ↦ table_related h
    | inr h ↦ inl (only_one h.2 i ∙ sym (only_one h.2 j))
  ]
    where
      either : (b : Bool) {c : Bool} → (b || c) ≡ true → (b ≡ true) ⊎ (c ≡ true)
      either true e = inl refl
      either false e = inr e

      above : (s q : ℕ) → (contains (ancestors r s) q || contains (ancestors r q) s) ≡ true → (q ∈ ancestors r s) ⊎ (s ∈ ancestors r q)
      above s q e = elim (either (contains (ancestors r s) q) e) [
        | inl h ↦ inl (contains_out (ancestors r s) q h)
        | inr h ↦ inr (contains_out (ancestors r q) s h)
      ]

      swap : {A B : Type 0} → A ⊎ B → B ⊎ A
      swap (inl x) = inr x
      swap (inr y) = inl y

      table_related : t ∈ r.tables → (s ≡ q) ⊎ ((q ∈ ancestors r s) ⊎ (s ∈ ancestors r q))
      table_related h = elim (every_two_in _ t.members (every_in _ r.tables a.related h) i j) [
        | inl e ↦ inl e
        | inr e ↦ inr (elim e [ inl f ↦ above s q f | inr f ↦ swap (above q s f) ])
      ]

  -- Some of the tables cost at most `most_total`, ..
  pub tables_small : (test : Table → Bool) (plan : Plan) (n : ℕ) → cost_over (keep test r.tables) r plan ≡ some n → n ≤ most_total
  tables_small test plan n e =
      let most = cost_most r plan (keep test r.tables) (λ t k. entry_small r a (keep_out test r.tables k).0 plan) n e in
      let few : length (keep test r.tables) ≤ 64 = le_trans (keep_short test r.tables) (tables_few r a) in
      le_trans most (mul-le-mul_right 1_000_000 few)
