-- The questions put to a file, one definition each, in their order; the first "no" gives its number.
use Rattle.std.specs.Prelude.{◌*◌, ◌%◌, ◌&&◌, ◌||◌, ◌∷◌, ◌++◌}
use Rattle.definitions.specs.Basics.{ℕ, zero, suc, Bool, true, false, Option, none, some, option_get_or, List, []}
use Rattle.definitions.specs.Basics.{map, flatten, drop_last, length, eqb, leb, ltb, sum, product, every, any, every_two}
use Rattle.definitions.specs.Basics.{contains, is_some, none_or}
use Rattle.definitions.specs.Limits.{Field, file_length, patient_count, table_count, plans_wanted, clinic, bed_count, member_count}
use Rattle.definitions.specs.Limits.{entry_count, entry, within}
use Rattle.definitions.specs.Syntax.{Patient, Table, Region, patient_numbers, patient_at, bed_counts}
use Rattle.definitions.specs.Layout.{lines, layout}
use Rattle.definitions.specs.Plans.{Plan, bed_of, plans, allowed}

-- 1. Is it at most 65,535 bytes?
unfoldable pub short_enough : List ℕ → Bool
short_enough file = within file_length (length file)

-- 2. Is it laid out as above?
unfoldable pub laid_out : List ℕ → Bool
laid_out file = is_some (layout file)

-- 3. Are there V patient lines and T table lines?
unfoldable pub counts_true : Region → Bool
counts_true r = eqb (length r.patients) r.patient_count && eqb (length r.tables) r.table_count

-- 4. Is n the true sum: of all bytes before the end line, modulo 65,521?
abbrev pub checksum : List ℕ → ℕ
checksum bytes = sum bytes % 65_521

unfoldable pub sum_true : List ℕ → Region → Bool
sum_true file r = eqb r.stated_sum (checksum (flatten (drop_last (lines file))))

-- 5. Is V 1 to 32, T 0 to 64, m 1 to 64?
unfoldable pub counts_within : Region → Bool
counts_within r = within patient_count r.patient_count && within table_count r.table_count && within plans_wanted r.plans_wanted

-- 6. Is each clinic 0 to 15, each bed count 1 to 16, each fixed bed `-` or below the count; each parent `-` or a smaller patient number than the patient's own?
unfoldable pub patients_within : Region → Bool
patients_within r = every (λ p. within clinic p.clinic && within bed_count p.bed_count && none_or (λ bed. ltb bed p.bed_count) p.fixed_bed) r.patients

unfoldable pub parents_smaller : Region → Bool
parents_smaller r = every (λ s. none_or (λ parent. ltb parent s) (patient_at r s).parent) (patient_numbers r)

-- 7. Has each table 1 to 4 members, all below V, in strictly rising order?
unfoldable pub members_right : Region → Bool
members_right r =
    every (λ t. within member_count (length t.members) && every (λ s. ltb s r.patient_count) t.members && every_two ltb t.members) r.tables

-- How many entries some tables have together.
abbrev pub entries_of : List Table → ℕ
entries_of tables = sum (map (λ t. length t.entries) tables)

-- 8. Has each table as many entries as the product of its members' bed counts, and all tables together at most 4,096?
unfoldable pub entry_counts_right : Region → Bool
entry_counts_right r =
    every (λ t. eqb (length t.entries) (product (bed_counts r t.members))) r.tables
    && within entry_count (entries_of r.tables)

-- 9. Is each entry that is a number at most 1,000,000?
unfoldable pub entries_within : Region → Bool
entries_within r = every (λ t. every (none_or (within entry)) t.entries) r.tables

-- A patient's ancestors, by following parents: as many steps as there are patients reach every one.
unfoldable pub following : Region → ℕ → Option ℕ → List ℕ
following r zero parent = []
following r (suc steps) none = []
following r (suc steps) (some p) = p ∷ following r steps (patient_at r p).parent

unfoldable pub ancestors : Region → ℕ → List ℕ
ancestors r s = following r (length r.patients) (patient_at r s).parent

-- 10. Of any two members of a table, is one an ancestor of the other?
unfoldable pub members_related : Region → Bool
members_related r = every (λ t. every_two (λ a b. contains (ancestors r a) b || contains (ancestors r b) a) t.members) r.tables

-- 11. Has the clinic asked for a patient in the file?
unfoldable pub clinic_present : Region → ℕ → Bool
clinic_present r c = any (λ p. eqb p.clinic c) r.patients

-- 12. Has the beds area at least m × V bytes, the cost area at least m costs of so many parts each, ..
unfoldable pub room_for_rows : Region → ℕ → List ℕ → List ℕ → Bool
room_for_rows r cost_size beds costs = leb (r.plans_wanted * r.patient_count) (length beds) && leb (r.plans_wanted * cost_size) (length costs)

-- .. and the work area at least 16,384 numbers? (Here a cost is one number.)
abbrev pub work_size : ℕ
work_size = 16_384

unfoldable pub areas_long_enough : Region → List ℕ → List ℕ → List ℕ → Bool
areas_long_enough r beds costs work = room_for_rows r 1 beds costs && leb work_size (length work)

-- 13. Is there an allowed plan?
unfoldable pub plan_allowed : Region → Bool
plan_allowed r = any (allowed r) (plans r)

-- 14. Are there exactly V beds, each below its patient's count?
unfoldable pub plan_fits : Region → Plan → Bool
plan_fits r plan = eqb (length plan) r.patient_count && every (λ s. ltb (bed_of plan s) (patient_at r s).bed_count) (patient_numbers r)

-- What a file says. (Where it is not laid out, question 2 is answered no, and what is asked of this stand-in does not count.)
unfoldable pub region_of : List ℕ → Region
region_of file = option_get_or (layout file) (record { patient_count = 0; table_count = 0; plans_wanted = 0; patients = []; tables = []; stated_sum = 0 })

-- Questions in their order, each with its number and its answer.
abbrev pub Asked : Type 0
Asked = List (ℕ × Bool)

-- The number of the first "no"; 0 if all are answered yes.
abbrev pub first_no : Asked → ℕ
first_no [] = 0
first_no ((q, true) ∷ rest) = first_no rest
first_no ((q, false) ∷ rest) = q

-- Questions 1 to 4, which are put to the file.
abbrev pub asked_of_file : List ℕ → Asked
asked_of_file file = let r = region_of file in (1, short_enough file) ∷ (2, laid_out file) ∷ (3, counts_true r) ∷ (4, sum_true file r) ∷ []

-- Questions 5 to 9, which are put to what it says, with the answer to 6 handed in; 5 to 10.
abbrev pub asked_to_nine : Region → Bool → Asked
asked_to_nine r patients_right =
    (5, counts_within r) ∷ (6, patients_right) ∷ (7, members_right r) ∷ (8, entry_counts_right r) ∷ (9, entries_within r) ∷ []

abbrev pub asked_of_region : Region → Asked
asked_of_region r = asked_to_nine r (patients_within r && parents_smaller r) ++ (10, members_related r) ∷ []

-- Questions 1 to 10, which every entry over a file asks first. Check asks no others and gives the number alone.
unfoldable pub asked_by_check : List ℕ → Asked
asked_by_check file = asked_of_file file ++ asked_of_region (region_of file)

unfoldable pub check_of : List ℕ → ℕ
check_of file = first_no (asked_by_check file)

-- What an entry asks: first of what it reads, then later. A call from C asks 12 of its result area between the two.
pub record Asks : Type 0 where
  pub first : Asked
  pub later : Asked

abbrev pub entry_asks : Asks → Asked
entry_asks asks = asks.first ++ asks.later

abbrev pub call_asks : Asks → Bool → Asked
call_asks asks result_long_enough = asks.first ++ (12, result_long_enough) ∷ asks.later

-- List asks 1 to 10, then 12 and 13. Whether the lent areas are long enough is handed in, since from C they hold bytes.
unfoldable pub asked_by_list : List ℕ → Bool → Asks
asked_by_list file long_enough = record { first = asked_by_check file; later = (12, long_enough) ∷ (13, plan_allowed (region_of file)) ∷ [] }

-- Sheet asks 1 to 11, then 12 and 13.
unfoldable pub asked_by_sheet : List ℕ → ℕ → Bool → Asks
asked_by_sheet file c long_enough = record {
  first = asked_by_check file ++ (11, clinic_present (region_of file) c) ∷ [];
  later = (12, long_enough) ∷ (13, plan_allowed (region_of file)) ∷ [];
}

-- Price asks 1 to 10, then 14.
unfoldable pub asked_by_price : List ℕ → Plan → Asks
asked_by_price file plan = record { first = asked_by_check file; later = (14, plan_fits (region_of file) plan) ∷ [] }
