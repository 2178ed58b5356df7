-- A clinic's own row: its cost is the price in the region with only the clinic's own tables.
use mathlib.Core.Path.{◌≡◌, refl, sym, ap, ◌∙◌, subst}
use Prim.Native.Nat.{◌≤◌}
use native.Mathlib.Omega.{arith}
use borrow.Author.Tests.{ltb-true, lt-ltb}
use lib.Seq.{get_or-take, length-take-le}
use Rattle.std.specs.Prelude.{◌<◌}
use Rattle.definitions.specs.Basics.{ℕ, true, option_get_or, List, map, length, get_or, take, ltb, below, every, keep, contains}
use Rattle.definitions.specs.Syntax.{Region, patient_at, patients_of}
use Rattle.definitions.specs.Plans as Said
use Rattle.definitions.specs.Plans.{bed_of, entry_for, cost_over}
use Rattle.definitions.specs.Sheets.{lowest, part, own_tables, own_cost, own_row}
use Rattle.lists.specs.Members.{◌∈◌, get_d_in, in_map_cases}
use Rattle.lists.specs.Every.{every_in, every_all}
use Rattle.lists.specs.Keep.{every_keep, keep_same}
use Rattle.lists.specs.Maps.{map_same}
use Rattle.lists.specs.Below.{numbers_enumerate}
use Rattle.theorems.specs.List.{Allowed}
use Rattle.theorems.specs.Accepted.{table_right}
use Rattle.theorems.specs.Lowest.{lowest_in_lem}
use Rattle.theorems.specs.Clinics.{clinic_patient}
use Rattle.patient_set.specs.Sets.{members}
use Rattle.patient_set.specs.Laws.{size_most}
use Rattle.partial_rows.specs.Beds.{inside}
use Rattle.partial_rows.proofs.Beds.{fits_beds}
use Rattle.partial_rows.specs.Padding.{unpadded}
use Rattle.buckets.specs.Terms.{Fitting, fitting_low}
use Rattle.buckets.specs.WithTables.{with_tables}
use Rattle.buckets.specs.Counting.{counts_for}
use Rattle.pricing.specs.Pricing.{AsksAll}
use Rattle.packed_rows.specs.declared.Row.{Row}
use Rattle.packed_rows.specs.Packed.{row_of, packable}
use Rattle.packed_rows.specs.Packing.{packed_row, pack_padded, pack_unpadded}
use Rattle.sheets.specs.Steps.{PartTaken, Priced, Own, GivesOwn}
use Rattle.bucket_words.specs.declared.PatientBucket.{PatientBucket}
use Rattle.bucket_words.specs.declared.TableTerm.{TableTerm}

-- A row of the list fits, and so do beds that begin with its beds.
pub listed_fits : (r : Region) (w : Said.Row) (beds : List ℕ) → Allowed r w → take (length r.patients) beds ≡ w.beds → Fitting r beds
listed_fits r w beds a e s h =
    let bed : bed_of beds s ≡ bed_of w.beds s = sym (get_or-take (length r.patients) beds s 0 h) ∙ ap (λ l. bed_of l s) e in
    let fits : bed_of w.beds s < (patient_at r s).bed_count = inside ((fits_beds r (λ q. true) w.beds (λ q l. refl)).1 a.fits) s h refl in
    omega arith

module _ {r : Region} {clinic : ℕ} {store : List ℕ} {patients : List PatientBucket} {terms : List TableTerm} {v set : ℕ} (own : Own r clinic store patients terms v set) where
  -- The region with only the own tables has the same patients, so its price may be asked.
  with_fits : (beds : List ℕ) → Fitting r beds → Fitting (with_tables r (counts_for set)) beds
  unfolding patient_at
  with_fits beds fits s h = fits s h

  pub own_asks : (beds : List ℕ) → v ≤ 32 → Fitting r beds → AsksAll store patients terms v beds
  own_asks beds few fits = record { region = with_tables r (counts_for set); prepared = own.prepared; fits = with_fits beds fits; all = own.all; few = few }

  -- The patients of the clinic are patients.
  patients_known : every (λ s. ltb s v) (patients_of r clinic) ≡ true
  unfolding patients_of
  patients_known =
      every_keep (λ s. ltb s v) _ (below (length r.patients))
      (every_all (λ s. ltb s v) (below (length r.patients)) (λ s k. lt-ltb s v (omega (arith, own.all, ((numbers_enumerate 0 (length r.patients)).only s k).1))))

  -- Four bits hold each bed that is moved.
  own_low : (beds taken : List ℕ) → Fitting r beds → length taken ≡ 32 → PartTaken beds (members set) taken → (s : ℕ) → s < length (members set) → bed_of taken s < 16
  own_low beds taken fits long is s h =
      let n = length (members set) in
      let inside = get_d_in (take n taken) s 0 (omega (arith, length-take-le n taken (omega (arith, size_most set)))) in
      let (q, i, e) = in_map_cases (bed_of beds) (members set) (subst (λ (l : List ℕ). get_or (take n taken) s 0 ∈ l) is inside) in
      let known = ltb-true q v (every_in (λ t. ltb t v) (patients_of r clinic) patients_known (subst (λ (l : List ℕ). q ∈ l) own.of_clinic i)) in
      let low = fitting_low (with_tables r (counts_for set)) own.prepared.accepted beds (with_fits beds fits) q (omega (arith, own.all)) in
      omega (arith, e, low, get_or-take n taken s 0 h)

  -- The tables that count for the clinic's patients are those that count for the clinic.
  tables_own : keep (counts_for set) r.tables ≡ own_tables r clinic
  unfolding own_tables
  tables_own = keep_same (counts_for set) _ r.tables (λ t k.
      let right = table_right r own.accepted k in
      ap (λ l. contains l (lowest t.members)) own.of_clinic ∙ clinic_patient r clinic (lowest t.members) (right.known (lowest_in_lem t.members right.some)))

  -- The beds and the cost.
  own_beds : (beds taken : List ℕ) → PartTaken beds (members set) taken → take (length (members set)) taken ≡ part r clinic (take v beds)
  unfolding part
  own_beds beds taken is =
      is ∙ ap (map (bed_of beds)) own.of_clinic
      ∙ map_same (bed_of beds) (bed_of (take v beds)) (patients_of r clinic) (λ s k. sym (get_or-take v beds s 0 (ltb-true s v (every_in _ (patients_of r clinic) patients_known k))))

  own_cost_lem : (beds : List ℕ) (cost first : ℕ) → Fitting r beds → Priced store patients terms v beds first → first ≡ own_cost r clinic (record { cost = cost; beds = take v beds })
  unfolding own_cost cost_over entry_for patient_at
  own_cost_lem beds cost first fits priced =
      priced (with_tables r (counts_for set)) own.prepared (with_fits beds fits) own.all
      ∙ ap (λ tables. option_get_or (cost_over tables r (take v beds)) 0) tables_own

-- The row that is packed.
pub own_made : {store : List ℕ} {patients : List PatientBucket} {terms : List TableTerm} {v : ℕ} (row : Row) (set : ℕ) (result : Row) (beds taken : List ℕ) (k first : ℕ)
    → beds ≡ (row_of row).beds → length taken ≡ 32 → k ≡ length (members set) → Priced store patients terms v beds first → PartTaken beds (members set) taken
    → row_of result ≡ record { cost = first; beds = packable k taken } → GivesOwn store patients terms v row set result
unfolding own_row
own_made {v = v} row set result beds taken k first plain long size priced is packed =
    record {
      padded = rw whole (pack_padded n first taken few long);
      is = λ r clinic own fits.
          let fit : Fitting r beds = rw plain fits in
          ap (unpadded n) whole ∙ pack_unpadded n first taken few long (own_low own beds taken fit long is)
          ∙ (λ i. record { cost = own_cost_lem own beds row.cost first fit priced i; beds = own_beds own beds taken is i })
          ∙ ap (λ (l : List ℕ). own_row r clinic (record { cost = row.cost; beds = take v l })) plain;
    }
  where
    n : ℕ
    n = length (members set)

    few : n ≤ 32
    few = size_most set

    whole : row_of result ≡ packed_row n first taken
    whole = packed ∙ ap (λ (m : ℕ). packed_row m first taken) size
