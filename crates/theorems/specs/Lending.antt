-- Request #101: how a C program lends a region, and that the call then reads the region that was lent.
use Rattle.std.specs.Prelude.{◌≡◌, ◌≤◌}
use Rattle.std.proofs.Math.Path.{refl, ap, ap₂}
use Rattle.std.proofs.Common.{sym, ◌∙◌, arith, take_at, ◌+◌, ◌-◌, ◌*◌, ◌/◌, ◌%◌, ◌^◌, ◌<◌, ◌&&◌, ◌∷◌, ◌++◌}
use Rattle.std.proofs.Math.Nat.{pow-succ'}
use Rattle.std.proofs.lemmas.List.{length-map}
use Rattle.std.proofs.Math.ListN.{get_or-append}
use Rattle.std.proofs.Math.Seq.{drop-append-add}
use borrow.Author.Tests.{ltb-true, lt-ltb, leb-true, le-leb, eq-eqb, ne_eqb}
use Rattle.definitions.specs.Basics.{ℕ, zero, suc, Bool, true, cond, Option, none, some, none_or, List, []}
use Rattle.definitions.specs.Basics.{map, flat_map, length, get_or, take, drop, eqb, leb, ltb, below, sum, every}
use Rattle.definitions.specs.Syntax.{Patient, Table, Region}
use Rattle.definitions.specs.Limits.{clinic, bed_count, entry, limits, within}
use Rattle.definitions.specs.Writer.{region_from, as_held}
use Rattle.definitions.specs.Boundary.{bytes_of, value_of, number_at, option_at, lent_patient, lent_patients, lent_table_count, lent_members, lent_entry_count}
use Rattle.definitions.specs.Boundary.{lent_entries_before, lent_table, lent_tables, lent_region, lent_whole, option_number, numbers_of_patient, numbers_of_table, numbers_of_entries}
use Rattle.lists.specs.Tests.{both, join}
use Rattle.lists.specs.Members.{◌∈◌}
use Rattle.lists.specs.Every.{every_in, every_all, every_at, every_map, every_weaken, every_flat_map}
use Rattle.lists.specs.Maps.{map_at}
use Rattle.lists.specs.Below.{by_places_lem, at_place, below_same}
use Rattle.lists.specs.Rows.{beginning, wide_long, wide_at, rows_long, row_at, row_inside, part_most}
use Rattle.theorems.specs.Accepted.{Accepted, at_most, patient_right, patients_few, parent_known, entries_few, table_right}
use Rattle.theorems.specs.Writer.{Passes, passes_accepted, none_or_lem}

-- ---- how a region is lent

-- Numbers in eight bytes each; those of all patients, tables and entries.
abbrev pub area : List ℕ → List ℕ
area ns = flat_map (bytes_of 8) ns

abbrev pub lend_patients : List Patient → List ℕ
lend_patients ps = area (flat_map numbers_of_patient ps)

abbrev pub lend_tables : List Table → List ℕ
lend_tables ts = area (flat_map numbers_of_table ts)

abbrev pub lend_entries : List Table → List ℕ
lend_entries ts = area (flat_map numbers_of_entries ts)

-- What goes into eight bytes; what is lent as it is: numbers of that size, none of which stands for none, and at most four members a table.
abbrev pub in_eight : ℕ → Bool
in_eight n = ltb n (2 ^ 64)

abbrev pub option_in_eight : Option ℕ → Bool
option_in_eight o = none_or (λ n. ltb n (2 ^ 64 - 1)) o

abbrev pub patient_lendable : Patient → Bool
patient_lendable p = in_eight p.clinic && in_eight p.bed_count && option_in_eight p.parent && option_in_eight p.fixed_bed

abbrev pub table_lendable : Table → Bool
table_lendable t = leb (length t.members) 4 && every in_eight t.members && in_eight (length t.entries) && every option_in_eight t.entries

-- ---- numbers in eight bytes

value_bytes : (k n : ℕ) → n < 256 ^ k → value_of (bytes_of k n) ≡ n
value_bytes zero n h = omega arith
value_bytes (suc k) n h = omega (arith, value_bytes k (n / 256) (omega (arith, pow-succ' 256 k)))

bytes_long : (k n : ℕ) → length (bytes_of k n) ≡ k
bytes_long zero n = refl
bytes_long (suc k) n = ap suc (bytes_long k (n / 256))

pub area_long : (ns : List ℕ) → length (area ns) ≡ length ns * 8
area_long ns = wide_long (bytes_of 8) 0 8 (bytes_long 8) ns

-- Number i of an area is number i of those that it holds.
pub number_in : (ns : List ℕ) (i : ℕ) → every in_eight ns ≡ true → i < length ns → number_at (area ns) i ≡ get_or ns i 0
unfolding flat_map
number_in [] i all h = absurd (omega arith)
number_in (n ∷ ns) zero all h =
    ap value_of (take_at (bytes_of 8 n) (area ns) 8 (bytes_long 8 n)) ∙ value_bytes 8 n (ltb-true n (2 ^ 64) (both (in_eight n) all).0)
number_in (n ∷ ns) (suc i) all h =
    let next : suc i * 8 ≡ length (bytes_of 8 n) + i * 8 = omega (arith, bytes_long 8 n) in
    ap (λ k. value_of (take 8 (drop k (bytes_of 8 n ++ area ns)))) next ∙ ap (λ l. value_of (take 8 l)) (drop-append-add (bytes_of 8 n) (area ns) (i * 8))
    ∙ number_in ns i (both (in_eight n) all).1 (omega arith)

-- A number that stands for an option is read as that option.
option_fits : (o : Option ℕ) → option_in_eight o ≡ true → in_eight (option_number o) ≡ true
option_fits none h = refl
option_fits (some n) h = lt-ltb n (2 ^ 64) (omega (arith, ltb-true n (2 ^ 64 - 1) h))

option_back : (o : Option ℕ) → option_in_eight o ≡ true → cond (eqb (option_number o) (2 ^ 64 - 1)) none (some (option_number o)) ≡ o
option_back none h = refl
option_back (some n) h = ap (λ b. cond b none (some n)) (ne_eqb n (2 ^ 64 - 1) (λ e. omega (arith, ltb-true n (2 ^ 64 - 1) h)))

-- ---- patients

pub nobody : Patient
nobody = record { clinic = 0; bed_count = 0; parent = none; fixed_bed = none }

module _ (ps : List Patient) (fits : every patient_lendable ps ≡ true) where
  -- What is asked of a patient, one by one.
  asked_one : (p : Patient) → patient_lendable p ≡ true
      → (in_eight p.clinic ≡ true) × (in_eight p.bed_count ≡ true) × (option_in_eight p.parent ≡ true) × (option_in_eight p.fixed_bed ≡ true)
  asked_one p h =
      let (three, fixed) = both (in_eight p.clinic && in_eight p.bed_count && option_in_eight p.parent) h in
      let (two, parent) = both (in_eight p.clinic && in_eight p.bed_count) three in
      let (first, second) = both (in_eight p.clinic) two in
      (first, second, parent, fixed)

  patient_fits_lem : (p : Patient) → patient_lendable p ≡ true → every in_eight (numbers_of_patient p) ≡ true
  patient_fits_lem p h =
      let (first, second, parent, fixed) = asked_one p h in
      join first (join second (join (option_fits p.parent parent) (join (option_fits p.fixed_bed fixed) refl)))

  patients_long : length (lend_patients ps) ≡ length ps * 32
  patients_long = omega (arith, area_long (flat_map numbers_of_patient ps), wide_long numbers_of_patient nobody 4 (λ p. refl) ps)

  -- Number j of patient s.
  patient_number : (s j : ℕ) → s < length ps → j < 4 → number_at (lend_patients ps) (s * 4 + j) ≡ get_or (numbers_of_patient (get_or ps s nobody)) j 0
  patient_number s j h l =
      number_in (flat_map numbers_of_patient ps) (s * 4 + j) (every_flat_map in_eight patient_lendable numbers_of_patient patient_fits_lem ps fits) (omega (arith, wide_long numbers_of_patient nobody 4 (λ p. refl) ps))
      ∙ wide_at numbers_of_patient nobody 4 (λ p. refl) ps s j 0 h l

  patient_back : (s : ℕ) → s < length ps → lent_patient (lend_patients ps) s ≡ get_or ps s nobody
  patient_back s h =
      let p = get_or ps s nobody in
      let asked = asked_one p (every_at patient_lendable ps s nobody h fits) in
      let first : s * 4 ≡ s * 4 + 0 = omega arith in
      let number = ap (number_at (lend_patients ps)) first ∙ patient_number s 0 h (omega arith) in
      let parent = ap (λ n. cond (eqb n (2 ^ 64 - 1)) none (some n)) (patient_number s 2 h (omega arith)) ∙ option_back p.parent asked.2 in
      let fixed = ap (λ n. cond (eqb n (2 ^ 64 - 1)) none (some n)) (patient_number s 3 h (omega arith)) ∙ option_back p.fixed_bed asked.3 in
      λ i. record { clinic = number i; bed_count = patient_number s 1 h (omega arith) i; parent = parent i; fixed_bed = fixed i }

  pub patients_back : lent_patients (lend_patients ps) ≡ ps
  unfolding lent_patients
  patients_back =
      let count : length (lend_patients ps) / 32 ≡ length ps = omega (arith, patients_long) in
      ap (λ n. map (lent_patient (lend_patients ps)) (below n)) count
      ∙ by_places_lem (lent_patient (lend_patients ps)) nobody (length ps) ps refl patient_back

-- ---- tables

pub no_table : Table
no_table = record { members = []; entries = [] }

pub table_wide : (t : Table) → length (numbers_of_table t) ≡ 6
table_wide t = refl

module _ (ts : List Table) (fits : every table_lendable ts ≡ true) where
  abbrev at : ℕ → Table
  at i = get_or ts i no_table

  table_long : length (flat_map numbers_of_table ts) ≡ length ts * 6
  table_long = wide_long numbers_of_table no_table 6 table_wide ts

  tables_long : length (lend_tables ts) ≡ length ts * 48
  tables_long = omega (arith, area_long (flat_map numbers_of_table ts), table_long)

  count : lent_table_count (lend_tables ts) ≡ length ts
  count = omega (arith, tables_long)

  -- What is asked of a table, one by one.
  asked_of : (t : Table) → table_lendable t ≡ true
      → (length t.members ≤ 4) × (every in_eight t.members ≡ true) × (in_eight (length t.entries) ≡ true) × (every option_in_eight t.entries ≡ true)
  asked_of t h =
      let (three, entries) = both (leb (length t.members) 4 && every in_eight t.members && in_eight (length t.entries)) h in
      let (two, counted) = both (leb (length t.members) 4 && every in_eight t.members) three in
      let (few, members) = both (leb (length t.members) 4) two in
      (leb-true (length t.members) 4 few, members, counted, entries)

  member_fits : (l : List ℕ) (j : ℕ) → every in_eight l ≡ true → in_eight (get_or l j 0) ≡ true
  member_fits [] j h = refl
  member_fits (n ∷ l) zero h = (both (in_eight n) h).0
  member_fits (n ∷ l) (suc j) h = member_fits l j (both (in_eight n) h).1

  table_fits : (t : Table) → table_lendable t ≡ true → every in_eight (numbers_of_table t) ≡ true
  table_fits t h =
      let (few, members, counted, entries) = asked_of t h in
      let member : (j : ℕ) → in_eight (get_or t.members j 0) ≡ true = λ j. member_fits t.members j members in
      join (lt-ltb (length t.members) (2 ^ 64) (omega arith)) (join (member 0) (join (member 1) (join (member 2) (join (member 3) (join counted refl)))))

  lendable_at : (i : ℕ) → i < length ts → table_lendable (at i) ≡ true
  lendable_at i h = every_at table_lendable ts i no_table h fits

  -- Number j of table i.
  table_number : (i j : ℕ) → i < length ts → j < 6 → number_at (lend_tables ts) (i * 6 + j) ≡ get_or (numbers_of_table (at i)) j 0
  table_number i j h l =
      number_in (flat_map numbers_of_table ts) (i * 6 + j) (every_flat_map in_eight table_lendable numbers_of_table table_fits ts fits) (omega (arith, table_long))
      ∙ wide_at numbers_of_table no_table 6 table_wide ts i j 0 h l

  entry_count_lem : (i : ℕ) → i < length ts → lent_entry_count (lend_tables ts) i ≡ length (at i).entries
  entry_count_lem i h = table_number i 5 h (omega arith)

  members_back : (i : ℕ) → i < length ts → lent_members (lend_tables ts) i ≡ (at i).members
  members_back i h =
      let (few, members, counted, entries) = asked_of (at i) (lendable_at i h) in
      let first : i * 6 ≡ i * 6 + 0 = omega arith in
      let many = ap (number_at (lend_tables ts)) first ∙ table_number i 0 h (omega arith) in
      let place : ℕ → ℕ = λ j. get_or (at i).members j 0 in
      ap (λ n. map (λ j. number_at (lend_tables ts) (i * 6 + suc j)) (below n)) many
      ∙ by_places_lem (λ j. number_at (lend_tables ts) (i * 6 + suc j)) 0 (length (at i).members) (at i).members refl
      (λ j l. table_number i (suc j) h (omega arith) ∙ get_or-append (map place (below 4)) (length (at i).entries ∷ []) 0 j (omega arith) ∙ at_place place 0 4 j (omega arith))

  -- ---- their entries

  entries_before : (i : ℕ) → i ≤ length ts → lent_entries_before (lend_tables ts) i ≡ beginning numbers_of_entries no_table ts i
  entries_before i h =
      ap sum (below_same (lent_entry_count (lend_tables ts)) (λ k. length (numbers_of_entries (at k))) i (λ k l. entry_count_lem k (omega arith) ∙ sym (length-map (at k).entries option_number)))

  entries_fit_lem : every in_eight (flat_map numbers_of_entries ts) ≡ true
  entries_fit_lem = every_flat_map in_eight table_lendable numbers_of_entries (λ t h. every_map in_eight option_number t.entries ∙ every_weaken option_in_eight (λ o. in_eight (option_number o)) option_fits t.entries (asked_of t h).3) ts fits

  entry_back : (i j : ℕ) → i < length ts → j < length (at i).entries → option_at (lend_entries ts) (lent_entries_before (lend_tables ts) i + j) ≡ get_or (at i).entries j none
  entry_back i j h l =
      let wide = length-map (at i).entries option_number in
      let number =
      ap (λ n. number_at (lend_entries ts) (n + j)) (entries_before i (omega arith))
      ∙ number_in (flat_map numbers_of_entries ts) (beginning numbers_of_entries no_table ts i + j) entries_fit_lem (row_inside numbers_of_entries no_table ts i j h (omega arith))
      ∙ row_at numbers_of_entries no_table ts i j 0 h (omega arith)
      ∙ map_at option_number (at i).entries j none 0 l
      in
      ap (λ n. cond (eqb n (2 ^ 64 - 1)) none (some n)) number
      ∙ option_back (get_or (at i).entries j none) (every_at option_in_eight (at i).entries j none l (asked_of (at i) (lendable_at i h)).3)

  table_back : (i : ℕ) → i < length ts → lent_table (lend_tables ts) (lend_entries ts) i ≡ at i
  table_back i h =
      let entries =
      ap (λ n. map (λ j. option_at (lend_entries ts) (lent_entries_before (lend_tables ts) i + j)) (below n)) (entry_count_lem i h)
      ∙ by_places_lem (λ j. option_at (lend_entries ts) (lent_entries_before (lend_tables ts) i + j)) none (length (at i).entries) (at i).entries refl (λ j l. entry_back i j h l)
      in
      λ k. record { members = members_back i h k; entries = entries k }

  pub tables_back : lent_tables (lend_tables ts) (lend_entries ts) ≡ ts
  unfolding lent_tables
  tables_back =
      ap (λ n. map (lent_table (lend_tables ts) (lend_entries ts)) (below n)) count
      ∙ by_places_lem (lent_table (lend_tables ts) (lend_entries ts)) no_table (length ts) ts refl table_back

  all_entries_lem : length (lend_entries ts) ≡ lent_entries_before (lend_tables ts) (lent_table_count (lend_tables ts)) * 8
  all_entries_lem =
      area_long (flat_map numbers_of_entries ts)
      ∙ ap (λ n. n * 8) (rows_long numbers_of_entries no_table ts ∙ sym (ap (lent_entries_before (lend_tables ts)) count ∙ entries_before (length ts) (omega arith)))

-- ---- the region

module _ (m : ℕ) (ps : List Patient) (ts : List Table) (patients : every patient_lendable ps ≡ true) (tables : every table_lendable ts ≡ true) where
  -- Its areas are whole, and they are read as the region.
  pub lent_whole_lem : lent_whole (lend_patients ps) (lend_tables ts) (lend_entries ts) ≡ true
  unfolding lent_whole
  lent_whole_lem =
      join (join (eq-eqb (length (lend_patients ps) % 32) 0 (omega (arith, patients_long ps patients))) (eq-eqb (length (lend_tables ts) % 48) 0 (omega (arith, tables_long ts tables))))
      (eq-eqb _ _ (all_entries_lem ts tables))

  pub lent_back : lent_region (lend_patients ps) (lend_tables ts) (lend_entries ts) m ≡ region_from m ps ts
  unfolding lent_region
  lent_back = ap₂ (region_from m) (patients_back ps patients) (tables_back ts tables)

-- ---- so every region that questions 5 to 10 let pass can be lent

pub record Lent (r : Region) : Type 0 where
  pub whole : lent_whole (lend_patients r.patients) (lend_tables r.tables) (lend_entries r.tables) ≡ true
  pub region : lent_region (lend_patients r.patients) (lend_tables r.tables) (lend_entries r.tables) r.plans_wanted ≡ as_held r

module _ (r : Region) (a : Accepted (as_held r)) where
  patient_lendable_lem : (p : Patient) → p ∈ r.patients → patient_lendable p ≡ true
  unfolding as_held region_from limits
  patient_lendable_lem p k =
      let right = patient_right (as_held r) a.patients_fit k in
      let beds = at_most bed_count p.bed_count right.beds_fit in
      join (join (join (lt-ltb p.clinic (2 ^ 64) (omega (arith, at_most clinic p.clinic right.clinic_fits))) (lt-ltb p.bed_count (2 ^ 64) (omega arith)))
      (none_or_lem p.parent (λ q e. lt-ltb q (2 ^ 64 - 1) (omega (arith, parent_known (as_held r) a k q e, patients_few (as_held r) a)))))
      (none_or_lem p.fixed_bed (λ b e. lt-ltb b (2 ^ 64 - 1) (omega (arith, right.fixed_fits b e))))

  table_lendable_lem : (t : Table) → t ∈ r.tables → table_lendable t ≡ true
  unfolding as_held region_from limits
  table_lendable_lem t k =
      let right = table_right (as_held r) a k in
      let counted = part_most (λ (u : Table). length u.entries) r.tables k in
      join (join (join (le-leb (length t.members) 4 right.few) (every_all in_eight t.members (λ s i. lt-ltb s (2 ^ 64) (omega (arith, right.known i, patients_few (as_held r) a)))))
      (lt-ltb (length t.entries) (2 ^ 64) (omega (arith, counted, entries_few (as_held r) a))))
      (every_all option_in_eight t.entries (λ o i. none_or_lem o (λ n e. lt-ltb n (2 ^ 64 - 1) (omega (arith, at_most entry n (ap (none_or (within entry)) (sym e) ∙ every_in _ t.entries right.within i))))))

pub passes_lent : (r : Region) → Passes r → Lent r
unfolding as_held
passes_lent r passes =
    let a = passes_accepted r passes in
    let patients = every_all patient_lendable r.patients (patient_lendable_lem r a) in
    let tables = every_all table_lendable r.tables (table_lendable_lem r a) in
    record { whole = lent_whole_lem r.plans_wanted r.patients r.tables patients tables; region = lent_back r.plans_wanted r.patients r.tables patients tables }
