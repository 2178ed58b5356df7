-- The calls from C: only numbers and byte areas. Each cost, and each result number beyond the first, is eight bytes.
use Rattle.std.specs.Prelude.{◌+◌, ◌-◌, ◌*◌, ◌/◌, ◌%◌, ◌^◌, ◌&&◌, ◌∷◌, ◌++◌}
use Rattle.definitions.specs.Basics.{ℕ, zero, suc, Bool, cond, Option, none, some, List, []}
use Rattle.definitions.specs.Basics.{map, flat_map, length, get_or, take, drop, eqb, leb, below, sum}
use Rattle.definitions.specs.Syntax.{Patient, Table, Region}
use Rattle.definitions.specs.Plans.{Plan}
use Rattle.definitions.specs.Questions.{entries_of, first_no, Asks, call_asks, region_of, room_for_rows, asked_by_check, check_of, asked_by_list, asked_by_sheet, asked_by_price}
use Rattle.definitions.specs.Outcomes.{Found, unless_refused, list_found, sheet_found, written, beds_after, costs_after, PriceOutcome, price_found}
use Rattle.definitions.specs.Writer.{region_from, written_file, asked_by_write, Made, made_by, output_after}
use Rattle.definitions.specs.Joining.{WhichFile, neither_file, first_file, second_file, refused_file, asked_by_join, join_made}
use Rattle.definitions.specs.Parents.{parents_file, asked_by_parents}
use Rattle.definitions.specs.Lookup.{FilePart, asked_by_line, LineOutcome, line_found}

-- A number in so many bytes, lowest byte first.
abbrev pub bytes_of : ℕ → ℕ → List ℕ
bytes_of zero n = []
bytes_of (suc k) n = n % 256 ∷ bytes_of k (n / 256)

-- Is a result area long enough for so many numbers?
abbrev pub room_for_numbers : ℕ → List ℕ → Bool
room_for_numbers count result = leb (count * 8) (length result)

-- An area after numbers are written to it, from its beginning on; a result area, which is untouched where it is shorter.
abbrev pub numbers_after : List ℕ → List ℕ → List ℕ
numbers_after numbers area = written 0 8 (bytes_of 8) numbers area

unfoldable pub result_after : List ℕ → List ℕ → List ℕ
result_after numbers result = cond (room_for_numbers (length numbers) result) (numbers_after numbers result) result

-- What list and sheet give back: the number, and the lent areas. The result area holds the row count.
pub record ListCall : Type 0 where
  pub number : ℕ
  pub beds : List ℕ
  pub costs : List ℕ
  pub result : List ℕ

unfoldable pub call_of : Found → List ℕ → List ℕ → List ℕ → ListCall
call_of f beds costs result = record {
  number = f.number;
  beds = beds_after f beds;
  costs = costs_after 8 (bytes_of 8) f costs;
  result = result_after (length f.rows ∷ []) result;
}

-- Check; list and sheet, which ask 12 of eight bytes a cost. (The work area is the wrapper's own.)
abbrev pub check_call : List ℕ → ℕ
check_call file = check_of file

unfoldable pub list_call : List ℕ → List ℕ → List ℕ → List ℕ → ListCall
list_call file beds costs result =
    let asks = asked_by_list file (room_for_rows (region_of file) 8 beds costs) in
    call_of (list_found file (call_asks asks (room_for_numbers 1 result))) beds costs result

unfoldable pub sheet_call : List ℕ → ℕ → List ℕ → List ℕ → List ℕ → ListCall
sheet_call file clinic beds costs result =
    let asks = asked_by_sheet file clinic (room_for_rows (region_of file) 8 beds costs) in
    call_of (sheet_found file clinic (call_asks asks (room_for_numbers 1 result))) beds costs result

-- What price and line (#103) give back: the number, and the result area, which holds two numbers.
pub record PairCall : Type 0 where
  pub number : ℕ
  pub result : List ℕ

-- Of price these are allowed (1, not allowed 0) and the total.
unfoldable pub price_call_of : PriceOutcome → List ℕ → PairCall
price_call_of p result = record { number = p.number; result = result_after (cond p.allowed 1 0 ∷ p.total ∷ []) result }

unfoldable pub price_call : List ℕ → Plan → List ℕ → PairCall
price_call file plan result = price_call_of (price_found file plan (call_asks (asked_by_price file plan) (room_for_numbers 2 result))) result

-- ---- the writer's call (#101)

-- The number that bytes make, lowest byte first; number i of an area, and the same where the largest stands for none.
abbrev pub value_of : List ℕ → ℕ
value_of [] = 0
value_of (b ∷ bs) = b + 256 * value_of bs

abbrev pub number_at : List ℕ → ℕ → ℕ
number_at area i = value_of (take 8 (drop (i * 8) area))

abbrev pub option_at : List ℕ → ℕ → Option ℕ
option_at area i = let n = number_at area i in cond (eqb n (2 ^ 64 - 1)) none (some n)

-- A region is lent in three areas of such numbers. A patient is four: clinic, count of beds, parent or none, fixed bed or none.
abbrev pub lent_patient : List ℕ → ℕ → Patient
lent_patient patients s = record {
  clinic = number_at patients (s * 4);
  bed_count = number_at patients (s * 4 + 1);
  parent = option_at patients (s * 4 + 2);
  fixed_bed = option_at patients (s * 4 + 3);
}

unfoldable pub lent_patients : List ℕ → List Patient
lent_patients patients = map (lent_patient patients) (below (length patients / 32))

-- A table is six: the count of members, four members, the count of entries. (A fifth member has no place, and question 7 refuses its count.)
abbrev pub lent_table_count : List ℕ → ℕ
lent_table_count tables = length tables / 48

abbrev pub lent_members : List ℕ → ℕ → List ℕ
lent_members tables i = map (λ j. number_at tables (i * 6 + suc j)) (below (number_at tables (i * 6)))

abbrev pub lent_entry_count : List ℕ → ℕ → ℕ
lent_entry_count tables i = number_at tables (i * 6 + 5)

-- How many entries the first tables have.
abbrev pub lent_entries_before : List ℕ → ℕ → ℕ
lent_entries_before tables i = sum (map (lent_entry_count tables) (below i))

-- An entry is one number or none; the entries of a table begin where those of the table before it end.
abbrev pub lent_table : List ℕ → List ℕ → ℕ → Table
lent_table tables entries i = record {
  members = lent_members tables i;
  entries = map (λ j. option_at entries (lent_entries_before tables i + j)) (below (lent_entry_count tables i));
}

unfoldable pub lent_tables : List ℕ → List ℕ → List Table
lent_tables tables entries = map (lent_table tables entries) (below (lent_table_count tables))

unfoldable pub lent_region : List ℕ → List ℕ → List ℕ → ℕ → Region
lent_region patients tables entries m = region_from m (lent_patients patients) (lent_tables tables entries)

-- 2, of lent areas: are there whole patients, whole tables, and as many entries as the tables count?
unfoldable pub lent_whole : List ℕ → List ℕ → List ℕ → Bool
lent_whole patients tables entries =
    eqb (length patients % 32) 0 && eqb (length tables % 48) 0 && eqb (length entries) (lent_entries_before tables (lent_table_count tables) * 8)

-- The call asks 2, then what the writer asks.
unfoldable pub asked_by_lent_write : List ℕ → List ℕ → List ℕ → ℕ → List ℕ → Asks
asked_by_lent_write patients tables entries m output =
    let asks = asked_by_write (lent_region patients tables entries m) output in
    record { first = (2, lent_whole patients tables entries) ∷ asks.first; later = asks.later }

-- What a writer's call gives back: the number, the output area, and the result area, which holds the byte count and perhaps more numbers.
pub record WriteCall : Type 0 where
  pub number : ℕ
  pub output : List ℕ
  pub result : List ℕ

unfoldable pub write_call_of : Made → List ℕ → List ℕ → List ℕ → WriteCall
write_call_of made more output result = record { number = made.number; output = output_after made output; result = result_after (length made.bytes ∷ more) result }

unfoldable pub write_call : List ℕ → List ℕ → List ℕ → ℕ → List ℕ → List ℕ → WriteCall
write_call patients tables entries m output result =
    let asks = asked_by_lent_write patients tables entries m output in
    write_call_of (made_by (call_asks asks (room_for_numbers 1 result)) (written_file (lent_region patients tables entries m))) [] output result

-- ---- the call of line (#103)

-- The result area holds the start and the length of the part; zeros on a refusal.
abbrev pub part_numbers : ℕ → FilePart → List ℕ
part_numbers zero part = part.start ∷ part.size ∷ []
part_numbers (suc q) part = 0 ∷ 0 ∷ []

unfoldable pub line_call_of : LineOutcome → List ℕ → PairCall
line_call_of found result = record { number = found.number; result = result_after (part_numbers found.number found.part) result }

unfoldable pub line_call : List ℕ → List ℕ → List ℕ → PairCall
line_call file typed result = line_call_of (line_found file typed (call_asks (asked_by_line file typed) (room_for_numbers 2 result))) result

-- ---- the call of join (#106)

-- The result area holds the byte count and which file the number is about, on a refusal too: 0 neither, 1 the first, 2 the second.
abbrev pub file_number : WhichFile → ℕ
file_number neither_file = 0
file_number first_file = 1
file_number second_file = 2

unfoldable pub join_call : List ℕ → List ℕ → List ℕ → List ℕ → WriteCall
join_call f g output result =
    write_call_of (join_made f g (call_asks (asked_by_join f g output) (room_for_numbers 2 result))) (file_number (refused_file f g) ∷ []) output result

-- ---- the call of parents (#107)

unfoldable pub parents_call : List ℕ → List ℕ → List ℕ → WriteCall
parents_call file output result = write_call_of (made_by (call_asks (asked_by_parents file output) (room_for_numbers 1 result)) (parents_file file)) [] output result

-- ---- the call of read, the mirror of the writer's, which no paper has: what a file says, in the three areas that the writer's call takes

-- A number or none, as one number; the four numbers of a patient; the six of a table, with 0 where there is no member; those of its entries.
abbrev pub option_number : Option ℕ → ℕ
option_number none = 2 ^ 64 - 1
option_number (some n) = n

abbrev pub numbers_of_patient : Patient → List ℕ
numbers_of_patient p = p.clinic ∷ p.bed_count ∷ option_number p.parent ∷ option_number p.fixed_bed ∷ []

abbrev pub numbers_of_table : Table → List ℕ
numbers_of_table t = length t.members ∷ (map (λ j. get_or t.members j 0) (below 4) ++ length t.entries ∷ [])

abbrev pub numbers_of_entries : Table → List ℕ
numbers_of_entries t = map option_number t.entries

-- 12, of read: has each of the three areas room for what the file says?
unfoldable pub room_for_region : Region → List ℕ → List ℕ → List ℕ → Bool
room_for_region r patients tables entries =
    leb (r.patient_count * 32) (length patients) && leb (r.table_count * 48) (length tables) && leb (entries_of r.tables * 8) (length entries)

-- The call asks 1 to 10, then 12.
unfoldable pub asked_by_read : List ℕ → List ℕ → List ℕ → List ℕ → Asks
asked_by_read file patients tables entries =
    record { first = asked_by_check file; later = (12, room_for_region (region_of file) patients tables entries) ∷ [] }

-- What it gives back: the number, and the lent areas.
pub record ReadCall : Type 0 where
  pub number : ℕ
  pub patients : List ℕ
  pub tables : List ℕ
  pub entries : List ℕ
  pub result : List ℕ

-- The result area holds V, T, m and how many entries there are; zeros on a refusal.
abbrev pub counts_read : ℕ → Region → List ℕ
counts_read zero r = r.patient_count ∷ r.table_count ∷ r.plans_wanted ∷ entries_of r.tables ∷ []
counts_read (suc q) r = 0 ∷ 0 ∷ 0 ∷ 0 ∷ []

unfoldable pub read_call_of : ℕ → Region → List ℕ → List ℕ → List ℕ → List ℕ → ReadCall
read_call_of number r patients tables entries result = record {
  number = number;
  patients = numbers_after (unless_refused number (flat_map numbers_of_patient r.patients)) patients;
  tables = numbers_after (unless_refused number (flat_map numbers_of_table r.tables)) tables;
  entries = numbers_after (unless_refused number (flat_map numbers_of_entries r.tables)) entries;
  result = result_after (counts_read number r) result;
}

unfoldable pub read_call : List ℕ → List ℕ → List ℕ → List ℕ → List ℕ → ReadCall
read_call file patients tables entries result =
    let asked = call_asks (asked_by_read file patients tables entries) (room_for_numbers 4 result) in
    read_call_of (first_no asked) (region_of file) patients tables entries result

-- ---- the version of the library: 1.8.0, as major × 1,000,000 + minor × 1,000 + patch

abbrev pub version_number : ℕ
version_number = 1_008_000
