-- The sheet of a clinic that only one of the regions has: in the joined region it is a beginning of the sheet in its own.
use Rattle.std.specs.Prelude.{◌≡◌, ◌≤◌, drop}
use Rattle.std.proofs.Math.Path.{sym, ap, ap₂}
use Rattle.std.proofs.Common.{◌∙◌, true≢false, arith, length-append, take-append-drop, ◌+◌, ◌<◌, ◌++◌}
use Rattle.std.proofs.Math.Bool.{not-eq-not}
use mathlib.Core.List.{append-nil, map-append, map-map}
use borrow.Author.Tests.{eqb-true, not-true, not-false}
use Rattle.std.proofs.lemmas.List.{length-map, take-append-le}
use Rattle.definitions.specs.Basics.{ℕ, min, true, false, not, option_get_or, List, [], map, length, take, eqb, keep, is_empty, contains, below, first_occurrences}
use Rattle.definitions.specs.Syntax.{Patient, Region, patient_numbers, patient_at, patients_of}
use Rattle.definitions.specs.Plans.{Plan, bed_of, cost_over, total, Row, list_of}
use Rattle.definitions.specs.Questions.{clinic_present}
use Rattle.definitions.specs.Sheets.{lowest, part, own_tables, own_cost, own_row, same_beds, sheet_of}
use Rattle.definitions.specs.Isolation.{SameBeginning}
use Rattle.definitions.specs.Joining.{table_after, joined_region, clinics_apart}
use Rattle.lists.specs.Members.{none_in_nil}
use Rattle.lists.specs.Every.{every_in, any_out}
use Rattle.lists.specs.Keep.{keep_out, keep_none, keep_append}
use Rattle.lists.specs.Maps.{map_same}
use Rattle.lists.specs.Below.{below_out, by_number}
use Rattle.ranking.specs.First.{First, first_iff}
use Rattle.ranking.proofs.First.{first_take, first_prefix}
use Rattle.ranking.proofs.Parts.{parts_first}
use Rattle.ranking.specs.FirstComing.{first_few, first_begins, first_images}
use Rattle.theorems.specs.Readers.{empty_is}
use Rattle.theorems.specs.Accepted.{Accepted, table_right, plans_wanted_lem}
use Rattle.theorems.specs.Clinics.{clinic_patient, present_asked}
use Rattle.theorems.specs.List.{row_order, Allowed, by_beds}
use Rattle.theorems.proofs.List.{list_first}
use Rattle.theorems.specs.Lowest.{lowest_in_lem}
use Rattle.theorems.specs.Sameness.{beds_tests}
use Rattle.theorems.specs.Sums.{sum_map}
use Rattle.joining.specs.Shifting.{shifted, keep_map, lowest_shifted}
use Rattle.joining.specs.Joined.{Stands, joined_plans, joined_tables_lem, joined_numbers, first_stands, second_stands}
use Rattle.joining.specs.Totals.{entry_after}
use Rattle.joining.specs.Lists.{Half, row_long, first_half, second_half}

-- ---- a region that stands in another

module _ {v : ℕ} {x j : Region} (stands : Stands v x j) (a : Accepted x) (c : ℕ) where
  -- Its patients are of the same clinics there, so its tables count for the same clinics.
  patients_kept_lem : keep (λ s. eqb (patient_at j s).clinic c) (shifted v (patient_numbers x)) ≡ shifted v (patients_of x c)
  unfolding patients_of
  patients_kept_lem = keep_map (λ q. v + q) _ _ (patient_numbers x) (λ q k. ap (λ (p : Patient). eqb p.clinic c) (stands.patient q (below_out _ q k)))

  tables_kept_lem : keep (λ t. eqb (patient_at j (lowest t.members)).clinic c) (map (table_after v) x.tables) ≡ map (table_after v) (own_tables x c)
  unfolding own_tables
  tables_kept_lem = keep_map (table_after v) _ _ x.tables (λ t k.
      let right = table_right x a k in
      ap (λ (s : ℕ). eqb (patient_at j s).clinic c) (lowest_shifted v t.members right.some)
      ∙ ap (λ (p : Patient). eqb p.clinic c) (stands.patient (lowest t.members) (right.known (lowest_in_lem t.members right.some))))

  -- Where nobody else and no other table there is the clinic's, its own row depends on the beds of the region alone.
  own_after : patients_of j c ≡ shifted v (patients_of x c) → own_tables j c ≡ map (table_after v) (own_tables x c)
      → (z w : Row) → ((q : ℕ) → q < length x.patients → bed_of z.beds (v + q) ≡ bed_of w.beds q) → own_row j c z ≡ own_row x c w
  unfolding own_row own_cost part cost_over own_tables patients_of
  own_after patients tables z w beds = λ i. record { cost = option_get_or (cost i) 0; beds = own i }
    where
      own : map (bed_of z.beds) (patients_of j c) ≡ map (bed_of w.beds) (patients_of x c)
      own =
          ap (map (bed_of z.beds)) patients ∙ map-map (bed_of z.beds) (λ q. v + q) (patients_of x c)
          ∙ map_same _ _ (patients_of x c) (λ q k. beds q (below_out _ q (keep_out _ (patient_numbers x) k).0))

      cost : cost_over (own_tables j c) j z.beds ≡ cost_over (own_tables x c) x w.beds
      cost =
          ap (λ l. cost_over l j z.beds) tables
          ∙ sum_map _ _ (table_after v) (own_tables x c) (λ t k. entry_after stands a z.beds w.beds beds t (keep_out _ x.tables k).0)

-- ---- a region that does not have the clinic: none of its tables counts for it

module _ (x : Region) (a : Accepted x) (c : ℕ) (absent : clinic_present x c ≡ false) where
  nobody : patients_of x c ≡ []
  nobody = empty_is (patients_of x c) (not-false (is_empty (patients_of x c)) (sym (present_asked x c) ∙ absent))

  no_table_lem : own_tables x c ≡ []
  unfolding own_tables
  no_table_lem = keep_none _ x.tables (λ t k.
      let right = table_right x a k in
      sym (clinic_patient x c (lowest t.members) (right.known (lowest_in_lem t.members right.some))) ∙ ap (λ l. contains l (lowest t.members)) nobody)

-- ---- the sheet of a half

-- One list is a beginning of the other; so they begin alike, where it is not empty.
abbrev pub Begins : List Row → List Row → Type 0
Begins v w = (rest : List Row) × (w ≡ v ++ rest)

pub begins_alike : (v w : List Row) → Begins v w → 0 < length v → SameBeginning v w
begins_alike v w (rest, is) some =
    let n = min (length v) (length w) in
    record {
      first_row = some;
      second_row = omega (arith, ap length is, length-append v rest);
      same_rows = sym (take-append-le n v rest (omega arith)) ∙ ap (take n) (sym is);
    }

module _ {v : ℕ} {x y j : Region} (half : Half v x y j) (c : ℕ) (fewer : j.plans_wanted ≤ x.plans_wanted) (some : 0 < y.plans_wanted)
    (own : (z w : Row) → ((q : ℕ) → q < length x.patients → bed_of z.beds (v + q) ≡ bed_of w.beds q) → own_row j c z ≡ own_row x c w) where
  -- The half of a row.
  abbrev beds_there : Plan → Plan
  beds_there plan = map (λ q. bed_of plan (v + q)) (patient_numbers x)

  abbrev cut : Row → Row
  cut z = record { cost = option_get_or (total x (beds_there z.beds)) 0; beds = beds_there z.beds }

  cut_is : (p q : Row) → Allowed x p → Allowed y q → cut (half.combine p q) ≡ p
  cut_is p q in_x in_y = λ i. record { cost = cost i; beds = beds i }
    where
      beds : beds_there (half.combine p q).beds ≡ p.beds
      beds =
          map_same _ (bed_of p.beds) (patient_numbers x) (λ k i. half.beds p q in_x in_y k (below_out _ k i))
          ∙ ap (λ (n : ℕ). map (bed_of p.beds) (below n)) (sym (row_long x p in_x)) ∙ by_number p.beds 0

      cost : option_get_or (total x (beds_there (half.combine p q).beds)) 0 ≡ p.cost
      cost = ap (λ o. option_get_or o 0) (ap (total x) beds ∙ in_x.priced)

  own_cut : (z : Row) → Allowed j z → own_row j c z ≡ own_row x c (cut z)
  own_cut z in_j =
      let made = half.apart z in_j in
      let is = ap cut made.is ∙ cut_is made.left made.right made.in_left made.in_right in
      ap (own_row j c) made.is ∙ own _ _ (half.beds made.left made.right made.in_left made.in_right) ∙ ap (own_row x c) (sym is)

  -- The halves of the list, each where it first comes, are the first rows that x allows.
  abbrev halves : List Row
  halves = first_occurrences same_beds [] (map cut (list_of j))

  halves_first : First row_order (length halves) (Allowed x) halves
  halves_first = parts_first half.rising cut (λ w. w.beds) cut_is (λ v w. by_beds x) beds_tests
      (first_take some (list_first y)) (first_iff half.apart half.together (list_first j))

  halves_begin : halves ≡ take (length halves) (list_of x)
  halves_begin = first_prefix
      (omega (arith, first_few same_beds [] (map cut (list_of j)), length-map (list_of j) cut, (list_first j).short, fewer)) halves_first (list_first x)

  -- The sheet holds their own rows, so it is a beginning of the sheet of x.
  sheet_halves : sheet_of j c ≡ first_occurrences same_beds [] (map (own_row x c) halves)
  unfolding sheet_of own_row part
  sheet_halves =
      ap (first_occurrences same_beds [])
      (map_same (own_row j c) (λ z. own_row x c (cut z)) (list_of j) (λ z k. own_cut z ((list_first j).sound k)) ∙ sym (map-map (own_row x c) cut (list_of j)))
      ∙ sym (first_images beds_tests (own_row x c) (λ v w e. ap (part x c) (beds_tests.alike_same v w e)) [] [] (map cut (list_of j)) (λ w k. absurd (none_in_nil k)))

  sheet_begins : Begins (sheet_of j c) (sheet_of x c)
  unfolding sheet_of
  sheet_begins =
      let n = length halves in
      let (rest, is) = first_begins same_beds [] (map (own_row x c) (take n (list_of x))) (map (own_row x c) (drop n (list_of x))) in (
        rest,
        ap (first_occurrences same_beds []) (ap (map (own_row x c)) (sym (take-append-drop n (list_of x))) ∙ map-append (own_row x c) (take n (list_of x)) (drop n (list_of x)))
            ∙ is ∙ ap (λ l. first_occurrences same_beds [] (map (own_row x c) l) ++ rest) (sym halves_begin) ∙ ap (λ (l : List Row). l ++ rest) (sym sheet_halves),
      )

-- ---- the joined region

module _ (r s : Region) (a : Accepted r) (b : Accepted s) (c : ℕ) where
  abbrev v : ℕ
  v = length r.patients

  abbrev j : Region
  j = joined_region r s

  joined_own : patients_of j c ≡ shifted 0 (patients_of r c) ++ shifted v (patients_of s c)
  unfolding patients_of
  joined_own =
      ap (keep _) (joined_numbers r s) ∙ keep_append _ (shifted 0 (patient_numbers r)) (shifted v (patient_numbers s))
      ∙ ap₂ ◌++◌ (patients_kept_lem (first_stands r s) a c) (patients_kept_lem (second_stands r s) b c)

  joined_counting : own_tables j c ≡ map (table_after 0) (own_tables r c) ++ map (table_after v) (own_tables s c)
  unfolding own_tables
  joined_counting =
      ap (keep _) (joined_tables_lem r s) ∙ keep_append _ (map (table_after 0) r.tables) (map (table_after v) s.tables)
      ∙ ap₂ ◌++◌ (tables_kept_lem (first_stands r s) a c) (tables_kept_lem (second_stands r s) b c)

  pub first_sheet_lem : clinic_present s c ≡ false → Begins (sheet_of (joined_region r s) c) (sheet_of r c)
  first_sheet_lem absent = sheet_begins (first_half r s a b) c (omega (arith, joined_plans r s)) (plans_wanted_lem s b).0 (own_after (first_stands r s) a c
      (joined_own ∙ ap (λ l. shifted 0 (patients_of r c) ++ shifted v l) (nobody s b c absent) ∙ append-nil (shifted 0 (patients_of r c)))
      (joined_counting ∙ ap (λ l. map (table_after 0) (own_tables r c) ++ map (table_after v) l) (no_table_lem s b c absent) ∙ append-nil _))

  pub second_sheet_lem : clinic_present r c ≡ false → Begins (sheet_of (joined_region r s) c) (sheet_of s c)
  second_sheet_lem absent = sheet_begins (second_half r s a b) c (omega (arith, joined_plans r s)) (plans_wanted_lem r a).0 (own_after (second_stands r s) b c
      (joined_own ∙ ap (λ l. shifted 0 l ++ shifted v (patients_of s c)) (nobody r a c absent))
      (joined_counting ∙ ap (λ l. map (table_after 0) l ++ map (table_after v) (own_tables s c)) (no_table_lem r a c absent)))

-- ---- by 16 no clinic of the one is in the other

module _ (r s : Region) (apart : clinics_apart r s ≡ true) (c : ℕ) where
  pub not_in_second : clinic_present r c ≡ true → clinic_present s c ≡ false
  unfolding clinics_apart clinic_present
  not_in_second present =
      let (p, k, same) = any_out _ r.patients present in
      not-true (clinic_present s c) (ap (λ n. not (clinic_present s n)) (sym (eqb-true p.clinic c same)) ∙ every_in _ r.patients apart k)

  pub not_in_first : clinic_present s c ≡ true → clinic_present r c ≡ false
  not_in_first present = not-eq-not.0 (λ e. true≢false (sym present ∙ not_in_second e))
