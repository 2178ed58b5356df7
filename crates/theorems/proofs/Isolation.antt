-- Where no table joins a clinic to the others, its sheet is the beginning of the ranked list of the clinic alone.
use Rattle.std.proofs.Math.Path.{sym, ap, ap₂}
use Rattle.std.proofs.Common.{◌∙◌, inl, inr, arith, ◌≡◌}
use Rattle.std.proofs.lemmas.Simd.{map-map}
use Rattle.std.specs.Prelude.{◌≤◌}
use Rattle.std.proofs.lemmas.List.{length-map}
use Rattle.definitions.specs.Basics.{ℕ, Bool, false, not, Option, some, option_get_or}
use Rattle.definitions.specs.Basics.{List, map, length, take, any, keep, contains, below}
use Rattle.definitions.specs.Syntax.{Patient, Table, Region, patient_numbers, patient_at, bed_counts, patients_of}
use Rattle.definitions.specs.Plans.{Plan, bed_of, entry_for, cost_over, total, Row, list_of}
use Rattle.definitions.specs.Sheets.{part, own_tables, own_cost, own_row, sheet_of}
use Rattle.definitions.specs.Isolation.{is_among, tables_among, joins}
use Rattle.lists.specs.Members.{◌∈◌}
use Rattle.lists.specs.Every.{every_in, contains_out}
use Rattle.lists.specs.Keep.{keep_in, keep_out}
use Rattle.lists.specs.Below.{below_in, by_number}
use Rattle.ranking.specs.First.{First, first_iff}
use Rattle.ranking.proofs.First.{first_prefix}
use Rattle.ranking.specs.Combining.{Combined, Rising}
use Rattle.theorems.specs.List.{Fits, Allowed, row_order, by_beds}
use Rattle.theorems.proofs.List.{list_first}
use Rattle.theorems.specs.Interleaving.{Interleaved, unweave, rising_marked, rising_unmarked, fits_apart, fits_together}
use Rattle.theorems.specs.Interleaving.{interleaved, interleave_is, interleaved_keep}
use Rattle.theorems.specs.Sums.{plus, plus_pairs, Halves, halves, sum_over, sum_split}
use Rattle.theorems.specs.Fixed.{fixed_cost, total_parts, tables_alone}
use Rattle.theorems.specs.Sameness.{beds_tests}
use Rattle.ranking.proofs.Parts.{parts_first}
use Rattle.theorems.specs.Places.{alone, patients_alone, alone_fits, alone_allowed, by_places, cost_alone, total_alone}
use Rattle.theorems.specs.Isolation
use Rattle.theorems.specs.Isolation.{fits_length, MembersPatients, clinic_alone, among_as_one, own_apart, OwnAlone}

-- ---- a region falls into the clinic and the rest

module _ (region : Region) (c m : ℕ) (members : MembersPatients region) (apart : any (joins region c) region.tables ≡ false) where
  abbrev mine : ℕ → Bool
  mine = Isolation.mine region c m members apart

  abbrev marks : List Bool
  marks = Isolation.marks region c m members apart

  abbrev patients : List ℕ
  patients = Isolation.patients region c m members apart

  abbrev others : List ℕ
  others = keep (λ s. not (mine s)) (patient_numbers region)

  abbrev their_tables : List Table
  their_tables = Isolation.their_tables region c m members apart

  abbrev other_tables : List Table
  other_tables = keep (λ t. not (is_among region c t)) region.tables

  abbrev own : Region
  own = Isolation.own region c m members apart

  abbrev rest : Region
  rest = alone 1 (patients_alone region others) (map (by_places others) other_tables)

  -- The members of these are patients of the clinic, and those of the other tables are other patients.
  own_members : (t : Table) → t ∈ their_tables → (s : ℕ) → s ∈ t.members → s ∈ patients
  unfolding is_among
  own_members t k s i = contains_out patients s (every_in (contains patients) t.members (keep_out (is_among region c) region.tables k).1 i)

  other_members : (t : Table) → t ∈ other_tables → (s : ℕ) → s ∈ t.members → s ∈ others
  other_members t k s i =
      let (kept, outside) = keep_out (λ t. not (is_among region c t)) region.tables k in
      keep_in (λ s. not (mine s)) (patient_numbers region) (below_in (length region.patients) ((members t kept).1 s i)) (ap not (sym (among_as_one region c m members apart t kept s i)) ∙ outside)

  pub own_alone : OwnAlone region c m members apart
  unfolding own_cost part tables_among
  own_alone w =
      ap (λ o. option_get_or o 0)
      (ap (λ l. cost_over l region w.beds) (own_apart region c m members apart) ∙ sym (cost_alone region patients m w.beds their_tables (tables_among region c) own_members))

  -- The total is that of the clinic alone and that of the rest: of the tables and of the fixed beds.
  abbrev fixed_over : Plan → List ℕ → Option ℕ
  fixed_over plan l = sum_over (fixed_cost region plan) l

  own_total : (plan : Plan) → total own (map (bed_of plan) patients) ≡ plus (cost_over (own_tables region c) region plan) (fixed_over plan patients)
  unfolding tables_among
  own_total plan =
      total_alone region patients m plan their_tables own_members
      ∙ ap (λ l. plus (cost_over l region plan) (fixed_over plan patients)) (sym (own_apart region c m members apart))

  rest_total : (plan : Plan) → total rest (map (bed_of plan) others) ≡ plus (cost_over other_tables region plan) (fixed_over plan others)
  rest_total plan = total_alone region others 1 plan other_tables other_members

  total_apart : (plan : Plan) → total region plan ≡ plus (total own (map (bed_of plan) patients)) (total rest (map (bed_of plan) others))
  unfolding cost_over patients_of
  total_apart plan =
      total_parts region plan
      ∙ ap₂ plus
      (sum_split (entry_for region plan) (is_among region c) region.tables ∙ ap (λ l. plus (cost_over l region plan) (cost_over other_tables region plan)) (sym (own_apart region c m members apart)))
      (sum_split (fixed_cost region plan) mine (patient_numbers region))
      ∙ plus_pairs (cost_over (own_tables region c) region plan) (cost_over other_tables region plan) (fixed_over plan patients) (fixed_over plan others)
      ∙ sym (ap₂ plus (own_total plan) (rest_total plan))

  -- What the clinic alone allows costs what its tables do.
  own_tables_lem : (plan : Plan) (n : ℕ) → total own (map (bed_of plan) patients) ≡ some n → cost_over (own_tables region c) region plan ≡ some n
  own_tables_lem plan n e = tables_alone region plan (cost_over (own_tables region c) region plan) patients n (sym (own_total plan) ∙ e)

  -- A plan is the beds of the clinic's patients interleaved with those of the others.
  abbrev counts : List ℕ
  counts = map (λ p. p.bed_count) region.patients

  counts_interleaved : Interleaved marks (bed_counts region patients) (bed_counts region others) counts
  unfolding patients_of patient_at
  counts_interleaved = rw all at (interleaved_keep mine (λ s. (patient_at region s).bed_count) (patient_numbers region))
    where
      all : map (λ s. (patient_at region s).bed_count) (patient_numbers region) ≡ counts
      all = sym (map-map (λ (p : Patient). p.bed_count) (patient_at region) (patient_numbers region)) ∙ ap (map (λ p. p.bed_count)) (by_number region.patients _)

  plan_interleaved : (plan : Plan) → Fits counts plan → Interleaved marks (map (bed_of plan) patients) (map (bed_of plan) others) plan
  unfolding patients_of
  plan_interleaved plan f = rw all at (interleaved_keep mine (bed_of plan) (patient_numbers region))
    where
      all : map (bed_of plan) (patient_numbers region) ≡ plan
      all = ap (λ (n : ℕ). map (bed_of plan) (below n)) (sym (length-map region.patients (λ p. p.bed_count)) ∙ fits_length counts plan f) ∙ by_number plan 0

  abbrev combine : Row → Row → Row
  combine = Isolation.combine region c m members apart

  abbrev Own : Row → Type 0
  Own = Allowed own

  abbrev Rest : Row → Type 0
  Rest = Allowed rest

  own_fits : (v : Row) → Own v → Fits (bed_counts region patients) v.beds
  own_fits = alone_fits region patients m (tables_among region c)

  rest_fits : (w : Row) → Rest w → Fits (bed_counts region others) w.beds
  rest_fits = alone_fits region others 1 rest.tables

  combined : (v w : Row) → Own v → Rest w → Interleaved marks v.beds w.beds (combine v w).beds
  combined v w p q = interleaved v.beds w.beds counts_interleaved (own_fits v p) (rest_fits w q)

  combined_fits : (v w : Row) → Own v → Rest w → Fits counts (combine v w).beds
  combined_fits v w p q = fits_together counts_interleaved (combined v w p q) (own_fits v p) (rest_fits w q)

  -- The sides of a combined row are the rows that it was made of.
  sides : (v w : Row) → Own v → Rest w → (map (bed_of (combine v w).beds) patients ≡ v.beds) × (map (bed_of (combine v w).beds) others ≡ w.beds)
  sides v w p q = unweave (plan_interleaved (combine v w).beds (combined_fits v w p q)) (combined v w p q)

  -- The rows that the list may hold are these combinations.
  row_apart : (z : Row) → Allowed region z → Combined combine Own Rest z
  row_apart z a = record {
    left = v;
    right = w;
    in_left = alone_allowed region patients m (tables_among region c) v fits.0 prices.left;
    in_right = alone_allowed region others 1 rest.tables w fits.1 prices.right;
    is = λ i. record { cost = prices.whole i; beds = interleave_is beds i };
  }
    where
      beds : Interleaved marks (map (bed_of z.beds) patients) (map (bed_of z.beds) others) z.beds
      beds = plan_interleaved z.beds a.fits

      prices : Halves (total own (map (bed_of z.beds) patients)) (total rest (map (bed_of z.beds) others)) z.cost
      prices = halves _ _ z.cost (sym (total_apart z.beds) ∙ a.priced)

      v : Row
      v = record { cost = prices.x; beds = map (bed_of z.beds) patients }

      w : Row
      w = record { cost = prices.y; beds = map (bed_of z.beds) others }

      fits : Fits (bed_counts region patients) v.beds × Fits (bed_counts region others) w.beds
      fits = fits_apart counts_interleaved beds a.fits

  row_together : (z : Row) → Combined combine Own Rest z → Allowed region z
  row_together z r = rw r.is (go r.left r.right r.in_left r.in_right)
    where
      go : (v w : Row) → Own v → Rest w → Allowed region (combine v w)
      go v w p q = let (mine_side, their_side) = sides v w p q in record {
        fits = combined_fits v w p q;
        priced = total_apart (combine v w).beds ∙ ap₂ plus (ap (total own) mine_side ∙ p.priced) (ap (total rest) their_side ∙ q.priced);
      }

  -- What the sheet holds of a combined row is the row of the clinic.
  own_row_lem : (v w : Row) → Own v → Rest w → own_row region c (combine v w) ≡ v
  unfolding own_row own_cost part
  own_row_lem v w p q = λ i. record { cost = cost i; beds = beds i }
    where
      beds : map (bed_of (combine v w).beds) patients ≡ v.beds
      beds = (sides v w p q).0

      cost : own_cost region c (combine v w) ≡ v.cost
      cost = ap (λ o. option_get_or o 0) (own_tables_lem (combine v w).beds v.cost (ap (total own) beds ∙ p.priced))

  rising : Rising row_order row_order row_order combine Own Rest
  rising = record { in_left = in_left_lem; in_right = in_right_lem }
    where
      in_left_lem : (v x w : Row) → Own v → Own x → Rest w → row_order.Lt v x → row_order.Lt (combine v w) (combine x w)
      in_left_lem v x w p s q (inl t) = inl (omega arith)
      in_left_lem v x w p s q (inr t) = inr (omega (arith, t.0), rising_marked (combined v w p q) (combined x w s q) t.1)

      in_right_lem : (v w y : Row) → Own v → Rest w → Rest y → row_order.Lt w y → row_order.Lt (combine v w) (combine v y)
      in_right_lem v w y p q s (inl t) = inl (omega arith)
      in_right_lem v w y p q s (inr t) = inr (omega (arith, t.0), rising_unmarked (combined v w p q) (combined v y p s) t.1)

  -- So the sheet holds the first rows of the clinic alone.
  pub sheet_first : First row_order (length (sheet_of region c)) (Allowed (clinic_alone m region c)) (sheet_of region c)
  unfolding sheet_of
  sheet_first = parts_first rising (own_row region c) (λ w. w.beds) own_row_lem (λ v w. by_beds own) beds_tests (list_first rest) (first_iff row_apart row_together (list_first region))

  -- The sheet is the beginning of the clinic's own list, for any number of plans that is not smaller.
  pub sheet_begins : length (sheet_of region c) ≤ m → sheet_of region c ≡ take (length (sheet_of region c)) (list_of (clinic_alone m region c))
  sheet_begins le = first_prefix le sheet_first (list_first own)
