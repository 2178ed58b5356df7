-- The whole text that is printed for a file is at most `printed_most` bytes.
use Rattle.std.specs.Prelude.{◌≡◌, refl, ◌≤◌}
use Rattle.std.proofs.Common.{inl, inr, le_trans, mul-le-mul_right, arith, leb-true, length-append, ◌<◌, ◌∷◌}
use Rattle.std.proofs.lemmas.List.{length-map}
use Rattle.definitions.specs.Basics.{ℕ, zero, suc, List, [], map, flat_map, length, get_or}
use Rattle.definitions.specs.Basics.{leb, sum, text, below}
use Rattle.definitions.specs.Limits.{limits}
use Rattle.definitions.specs.Syntax.{Patient, Region, patient_numbers, patient_at, patients_of}
use Rattle.definitions.specs.Spelling.{decimal}
use Rattle.definitions.specs.Plans.{Plan, Row, bed_of, list_of}
use Rattle.definitions.specs.Sheets.{part, own_row, sheet_of}
use Rattle.definitions.specs.Questions.{region_of, clinic_present, asked_by_check, asked_by_list}
use Rattle.definitions.specs.Isolation.{yield_number}
use Rattle.definitions.specs.Output.{printed_rows, clinics_present, printed_answer, printed}
use Rattle.lists.specs.Members.{◌∈◌, here, there, here_or_there, none_in_nil, in_map_cases}
use Rattle.lists.specs.Every.{every_in}
use Rattle.lists.specs.Keep.{keep_out, keep_short}
use Rattle.lists.specs.Below.{numbers_enumerate, below_long}
use Rattle.theorems.specs.Refusals.{yield_says}
use Rattle.theorems.specs.Accepted.{Accepted, patients_few, plans_wanted_lem, beds_within}
use Rattle.theorems.proofs.Accepted.{own_small, total_small}
use Rattle.theorems.specs.List.{Fits}
use Rattle.theorems.proofs.List.{list_first}
use Rattle.theorems.specs.Isolation.{fits_length}
use Rattle.theorems.specs.Yields.{yielding}
use Rattle.theorems.proofs.SheetRows.{sheet_rows}
use Rattle.theorems.proofs.SheetAreas.{rows_few, row_wide}
use Rattle.row_printer.specs.Sizes.{Small, sheet_most, printed_most, list_size, sheets_size, refusal_size}
use Rattle.row_printer.specs.Shares.{sum_keep, shares}

-- A plan's beds are below its patients' counts, so below what all counts are at most.
fits_low : (ps : List Patient) (plan : Plan) → ((p : Patient) → p ∈ ps → p.bed_count ≤ 16) → Fits (map (λ p. p.bed_count) ps) plan → (b : ℕ) → b ∈ plan → b < 16
fits_low [] [] h f b k = absurd (none_in_nil k)
fits_low [] (x ∷ plan) h f b k = absurd f
fits_low (p ∷ ps) [] h f b k = absurd f
fits_low (p ∷ ps) (x ∷ plan) h f b k = elim (here_or_there k) [
  | inl e ↦ omega (arith, h p (here refl), f.0)
  | inr t ↦ fits_low ps plan (λ q i. h q (there i)) f.1 b t
]

-- What stands at a place of a list of low numbers, or 0 beyond it, is low.
get_d_low : (l : List ℕ) (i : ℕ) → ((b : ℕ) → b ∈ l → b < 16) → get_or l i 0 < 16
get_d_low [] i low = omega arith
get_d_low (x ∷ l) zero low = low x (here refl)
get_d_low (x ∷ l) (suc i) low = get_d_low l i (λ b k. low b (there k))

module _ (r : Region) (accepted : Accepted r) where
  -- Every row of the list is small, ..
  row_low : (w : Row) → w ∈ list_of r → (b : ℕ) → b ∈ w.beds → b < 16
  row_low w k = fits_low r.patients w.beds (λ p i. (beds_within r accepted i).1) ((list_first r).sound k).fits

  row_small : (w : Row) → w ∈ list_of r → Small 32 w
  row_small w k =
      let allowed = (list_first r).sound k in
      let long = fits_length (map (λ p. p.bed_count) r.patients) w.beds allowed.fits in
      record {
        few = omega (arith, patients_few r accepted, length-map r.patients (λ p. p.bed_count));
        low = row_low w k;
        cheap = total_small r accepted w.beds w.cost allowed.priced;
      }

  -- .. and so is every row of a sheet, with as many beds as the clinic has patients.
  sheet_small : (c : ℕ) (v : Row) → v ∈ sheet_of r c → Small (length (patients_of r c)) v
  unfolding own_row part
  sheet_small c v k =
      let (w, i, e) = sheet_rows r c v k in
      record {
        few = omega (arith, row_wide r c v k);
        low = λ b j.
            let (s, m, q) = in_map_cases (bed_of w.beds) (patients_of r c) (rw (← e) at j) in
            rw (← q) (get_d_low w.beds s (row_low w i));
        cheap = rw (← e) (own_small r accepted c w);
      }

  -- The clinics that have patients are numbered below 16 and share the patients.
  present_low : (c : ℕ) → c ∈ clinics_present r → c < 16
  unfolding clinics_present limits
  present_low c k = ((numbers_enumerate 0 16).only c (keep_out (clinic_present r) (below 16) k).0).1

  beds_shared : sum (map (λ c. length (patients_of r c)) (clinics_present r)) ≤ 32
  unfolding clinics_present limits patients_of
  beds_shared =
      let all = shares (λ s. (patient_at r s).clinic) (patient_numbers r) (below 16) (numbers_enumerate 0 16).distinct in
      let kept = sum_keep (clinic_present r) (λ c. length (patients_of r c)) (below 16) in
      omega (arith, below_long (length r.patients), patients_few r accepted)

  few_clinics : length (clinics_present r) ≤ 16
  unfolding clinics_present limits
  few_clinics = keep_short (clinic_present r) (below 16)

  -- So the list and all sheets have room in that many bytes.
  answer_size : length (printed_answer 0 r) ≤ printed_most
  answer_size =
      let list = list_size 32 (list_of r) (le_trans (list_first r).short (plans_wanted_lem r accepted).1) row_small in
      let sheets = sheets_size (λ c. length (patients_of r c)) (sheet_of r) (clinics_present r)
      (λ c k. (present_low c k, le_trans (rows_few r c) (plans_wanted_lem r accepted).1, sheet_small c)) in
      let all = length-append (printed_rows (text "list" ∷ []) (list_of r)) (flat_map (λ c. printed_rows (text "sheet" ∷ decimal c ∷ []) (sheet_of r c)) (clinics_present r)) in
      omega (arith, beds_shared, mul-le-mul_right (sheet_most 0) few_clinics)

-- A file is refused by one of the questions that list asks.
refused_low : (file : List ℕ) → yield_number file ≤ 14
unfolding asked_by_list asked_by_check
refused_low file = leb-true (yield_number file) 14 (every_in (λ n. leb n 14) _ refl (yield_says file).own)

-- For any file at all, refused or not.
pub printed_size : (file : List ℕ) → length (printed file) ≤ printed_most
unfolding printed
printed_size file = go (yield_number file) refl
  where
    go : (q : ℕ) → yield_number file ≡ q → length (printed_answer q (region_of file)) ≤ printed_most
    go zero e = answer_size (region_of file) (yielding file e)
    go (suc q) e = let most = refusal_size (suc q) (omega (arith, refused_low file)) in omega arith
