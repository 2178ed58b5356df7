-- Read, the mirror of write: what its number says, what it leaves in the lent areas, and that writing what was read gives the file back.
use Rattle.std.specs.Prelude.{◌≡◌, ◌≤◌}
use Rattle.std.proofs.Math.Path.{refl, ap}
use Rattle.std.proofs.Common.{ap₂, ◌∙◌, length-append, length-drop, take_at, ◌+◌, ◌*◌, ◌^◌, ◌<◌, ◌&&◌, ◌∷◌, ◌++◌}
use native.Mathlib.Omega.{arith}
use Rattle.std.proofs.lemmas.List.{length-map, take-append-le, drop-append-le}
use Rattle.std.proofs.Math.ListN.{drop}
use Rattle.std.proofs.lemmas.List.Edits.{sets-eq}
use borrow.Author.Tests.{lt-ltb, leb-true, le-leb}
use Rattle.definitions.specs.Basics.{ℕ, suc, Bool, true, List, [], flat_map, length, get_or, take, leb, every}
use Rattle.definitions.specs.Limits.{patient_count, table_count, plans_wanted, limits}
use Rattle.definitions.specs.Syntax.{Patient, Table, Region}
use Rattle.definitions.specs.Questions.{Asked, entries_of, region_of, asked_of_region, asked_by_check}
use Rattle.definitions.specs.Outcomes.{unless_refused}
use Rattle.definitions.specs.Writer.{region_from, as_held, written_file, room_for_file, asked_by_write, made_by}
use Rattle.definitions.specs.Boundary.{bytes_of, value_of, number_at, room_for_numbers, numbers_after, result_after, lent_region, lent_whole, asked_by_lent_write, WriteCall, write_call_of, write_call}
use Rattle.definitions.specs.Boundary.{numbers_of_patient, numbers_of_table, numbers_of_entries, option_number, room_for_region, asked_by_read, ReadCall, counts_read, read_call_of, read_call}
use Rattle.lists.specs.Tests.{both, join}
use Rattle.lists.specs.Every.{every_split}
use Rattle.lists.specs.Rows.{wide_long}
use Rattle.theorems.specs.Answers.{all_yes, no_no, yes_then}
use Rattle.theorems.proofs.Refusals.{result_zeroed}
use Rattle.theorems.specs.Writing.{written_is}
use Rattle.theorems.specs.Accepted.{Accepted, accepted, accepted_asked, patients_counted_lem, tables_counted_lem, counts_within_lem, at_most, entries_few}
use Rattle.theorems.specs.Writer.{Passes, passes_accepted, write_call_says}
use Rattle.theorems.proofs.Writer.{read_held, read_written, written_region}
use Rattle.theorems.specs.Lending.{area, lend_patients, lend_tables, lend_entries, nobody, no_table, table_wide, in_eight, area_long, number_in, Lent, passes_lent}
use Rattle.theorems.specs.Reading
use Rattle.theorems.specs.Reading.{WasRead, NotRead, all_asked_lem, file_fine, FileBack, ReadThenWritten, WrittenThenRead}

-- ---- numbers in an area

-- Numbers that have room stand at the beginning of an area, which is as it was beyond them.
numbers_stand : (ns before : List ℕ) {n : ℕ} → length ns * 8 ≡ n → n ≤ length before → numbers_after ns before ≡ area ns ++ drop n before
numbers_stand ns before {n} e fits =
    let all : (0 + length ns) * 8 ≡ n = omega (arith, e) in
    written_is (bytes_of 8) 8 0 ns before (λ x k. refl) (omega (arith, e)) ∙ ap (λ k. area ns ++ drop k before) all

-- So they can be taken from there.
numbers_taken : (ns rest : List ℕ) {n : ℕ} → length ns * 8 ≡ n → take n (area ns ++ rest) ≡ area ns
numbers_taken ns rest e = take_at (area ns) rest _ (area_long ns ∙ e)

-- A number of the first part of an area.
number_first : (ns rest : List ℕ) (i : ℕ) → every in_eight ns ≡ true → i < length ns → number_at (area ns ++ rest) i ≡ get_or ns i 0
number_first ns rest i all h =
    ap (λ l. value_of (take 8 l)) (drop-append-le (i * 8) (area ns) rest (omega (arith, area_long ns)))
    ∙ ap value_of (take-append-le 8 (drop (i * 8) (area ns)) rest (omega (arith, area_long ns, length-drop (i * 8) (area ns))))
    ∙ number_in ns i all h

-- How many numbers patients, tables and entries are.
patients_long : (ps : List Patient) → length (flat_map numbers_of_patient ps) * 8 ≡ length ps * 32
patients_long ps = omega (arith, wide_long numbers_of_patient nobody 4 (λ p. refl) ps)

tables_long : (ts : List Table) → length (flat_map numbers_of_table ts) * 8 ≡ length ts * 48
tables_long ts = omega (arith, wide_long numbers_of_table no_table 6 table_wide ts)

entries_long : (ts : List Table) → length (flat_map numbers_of_entries ts) ≡ entries_of ts
unfolding flat_map
entries_long [] = refl
entries_long (t ∷ ts) = length-append (numbers_of_entries t) (flat_map numbers_of_entries ts) ∙ ap₂ (λ a b. a + b) (length-map t.entries option_number) (entries_long ts)

-- ---- what read leaves, by its number

-- V, T, m and the count of entries are small.
counts_fit_lem : (r : Region) → Accepted r → every in_eight (counts_read 0 r) ≡ true
unfolding limits
counts_fit_lem r a =
    let (v, t, m) = counts_within_lem r a in
    join (lt-ltb r.patient_count (2 ^ 64) (omega (arith, at_most patient_count _ v)))
    (join (lt-ltb r.table_count (2 ^ 64) (omega (arith, at_most table_count _ t)))
    (join (lt-ltb r.plans_wanted (2 ^ 64) (omega (arith, at_most plans_wanted _ m)))
    (join (lt-ltb (entries_of r.tables) (2 ^ 64) (omega (arith, entries_few r a))) refl)))

module _ (file patients tables entries result : List ℕ) where
  abbrev call : ReadCall
  call = Reading.call file patients tables entries result

  abbrev region : Region
  region = region_of file

  pub read_call_refused : (q : ℕ) → call.number ≡ suc q → NotRead patients tables entries result call
  unfolding read_call read_call_of
  read_call_refused q e = record {
    patients_kept = ap (λ n. numbers_after (unless_refused n (flat_map numbers_of_patient region.patients)) patients) e;
    tables_kept = ap (λ n. numbers_after (unless_refused n (flat_map numbers_of_table region.tables)) tables) e;
    entries_kept = ap (λ n. numbers_after (unless_refused n (flat_map numbers_of_entries region.tables)) entries) e;
    no_counts = rw e (result_zeroed 4 result);
  }

  -- ---- number 0

  module _ (fine : call.number ≡ 0) where
    region_accepted : Accepted region
    region_accepted = (accepted file (file_fine file patients tables entries result fine)).region

    -- .. and the areas have room.
    later : all_yes ((12, room_for_numbers 4 result) ∷ (12, room_for_region region patients tables entries) ∷ []) ≡ true
    unfolding asked_by_read
    later = (every_split _ (asked_by_check file) _ (all_asked_lem file patients tables entries result fine)).1

    rooms : (r : Region) → room_for_region r patients tables entries ≡ true
        → (r.patient_count * 32 ≤ length patients) × (r.table_count * 48 ≤ length tables) × (entries_of r.tables * 8 ≤ length entries)
    unfolding room_for_region
    rooms r yes_all =
        let (two, third) = both (leb (r.patient_count * 32) (length patients) && leb (r.table_count * 48) (length tables)) yes_all in
        let (first, second) = both (leb (r.patient_count * 32) (length patients)) two in
        (leb-true _ _ first, leb-true _ _ second, leb-true _ _ third)

    -- The counts stand at the beginning of the result area.
    counts_stand : call.result ≡ area (counts_read 0 region) ++ drop 32 result
    unfolding read_call read_call_of result_after
    counts_stand =
        let room = leb-true 32 (length result) (both (room_for_numbers 4 result) later).0 in
        ap (λ n. result_after (counts_read n region) result) fine
        ∙ rw (le-leb 32 (length result) room) (numbers_stand (counts_read 0 region) result refl room)

    count_at : (i : ℕ) → i < 4 → number_at call.result i ≡ get_or (counts_read 0 region) i 0
    count_at i h = ap (λ l. number_at l i) counts_stand ∙ number_first (counts_read 0 region) (drop 32 result) i (counts_fit_lem region region_accepted) h

    pub was_read : WasRead region patients tables entries call
    unfolding read_call read_call_of
    was_read =
        let (first, second, third) = rooms region (both (room_for_region region patients tables entries) (both (room_for_numbers 4 result) later).1).0 in
        let v = patients_long region.patients ∙ ap (λ n. n * 32) (patients_counted_lem region region_accepted) in
        let t = tables_long region.tables ∙ ap (λ n. n * 48) (tables_counted_lem region region_accepted) in
        let n = ap (λ n. n * 8) (entries_long region.tables) in
        record {
          each_patient = ap (λ n. numbers_after (unless_refused n (flat_map numbers_of_patient region.patients)) patients) fine ∙ numbers_stand (flat_map numbers_of_patient region.patients) patients v first;
          each_table = ap (λ n. numbers_after (unless_refused n (flat_map numbers_of_table region.tables)) tables) fine ∙ numbers_stand (flat_map numbers_of_table region.tables) tables t second;
          each_entry = ap (λ n. numbers_after (unless_refused n (flat_map numbers_of_entries region.tables)) entries) fine ∙ numbers_stand (flat_map numbers_of_entries region.tables) entries n third;
          patient_count = count_at 0 (omega arith);
          table_count = count_at 1 (omega arith);
          plans_wanted = count_at 2 (omega arith);
          entry_count = count_at 3 (omega arith);
        }

    -- ---- writing what was read

    abbrev patients_read : List ℕ
    patients_read = Reading.patients_read file patients tables entries result fine

    abbrev tables_read : List ℕ
    tables_read = Reading.tables_read file patients tables entries result fine

    abbrev entries_read : List ℕ
    entries_read = Reading.entries_read file patients tables entries result fine

    abbrev plans_read : ℕ
    plans_read = Reading.plans_read file patients tables entries result fine

    -- They are how the region is lent, ..
    patients_lent : patients_read ≡ lend_patients region.patients
    patients_lent =
        ap₂ (λ n l. take (n * 32) l) was_read.patient_count was_read.each_patient
        ∙ numbers_taken (flat_map numbers_of_patient region.patients) _ (patients_long region.patients ∙ ap (λ n. n * 32) (patients_counted_lem region region_accepted))

    tables_lent : tables_read ≡ lend_tables region.tables
    tables_lent =
        ap₂ (λ n l. take (n * 48) l) was_read.table_count was_read.each_table
        ∙ numbers_taken (flat_map numbers_of_table region.tables) _ (tables_long region.tables ∙ ap (λ n. n * 48) (tables_counted_lem region region_accepted))

    entries_lent : entries_read ≡ lend_entries region.tables
    entries_lent =
        ap₂ (λ n l. take (n * 8) l) was_read.entry_count was_read.each_entry
        ∙ numbers_taken (flat_map numbers_of_entries region.tables) _ (ap (λ n. n * 8) (entries_long region.tables))

    region_lent : Lent region
    region_lent = passes_lent region (rw (read_held file (file_fine file patients tables entries result fine)) (no_no (asked_of_region region) (accepted_asked region region_accepted)))

    -- .. so the areas are whole, and the writer's call reads the file's own region from them.
    pub read_whole : lent_whole patients_read tables_read entries_read ≡ true
    read_whole = rw (patients_lent, tables_lent, entries_lent) region_lent.whole

    pub read_region : lent_region patients_read tables_read entries_read plans_read ≡ region
    read_region = rw (patients_lent, tables_lent, entries_lent, was_read.plans_wanted) (region_lent.region ∙ read_held file (file_fine file patients tables entries result fine))

    pub read_then_written : ReadThenWritten file patients tables entries result fine
    unfolding write_call asked_by_lent_write asked_by_write
    read_then_written output left =
        (λ i. written (read_whole i) ((ap as_held read_region ∙ read_held file (file_fine file patients tables entries result fine)) i) ((ap written_file read_region ∙ read_written file (file_fine file patients tables entries result fine)) i))
        ∙ ap (λ n. write_call_of (record { number = n; bytes = unless_refused n file }) [] output left)
        (yes_then ((2, true) ∷ asked_of_region region) ((12, room_for_numbers 1 left) ∷ (15, room_for_file file output) ∷ []) (accepted_asked region region_accepted))
      where
        written : Bool → Region → List ℕ → WriteCall
        written whole held f = write_call_of (made_by ((2, whole) ∷ asked_of_region held ++ (12, room_for_numbers 1 left) ∷ (15, room_for_file f output) ∷ []) f) [] output left

    pub file_back : FileBack file patients tables entries result fine
    unfolding write_call_of room_for_file
    file_back output left few room =
        let start : 0 + length file ≡ length file = omega arith in
        read_then_written output left
        ∙ rw (le-leb 8 (length left) room, le-leb (length file) (length output) few)
        (ap {B = WriteCall} (λ o. record { number = 0; output = o; result = result_after (length file ∷ []) left }) (sets-eq file output 0 (omega arith) ∙ ap (λ k. file ++ drop k output) start))

-- ---- reading what was written

-- What write made of lent areas, read again, is the region that was lent. (The places past a table's members may differ: they are ignored.)
module _ (patients tables entries : List ℕ) (m : ℕ) (output left : List ℕ) (wrote : (write_call patients tables entries m output left).number ≡ 0) where
  abbrev lent : Region
  lent = Reading.lent patients tables entries m output left wrote

  lent_held : as_held lent ≡ lent
  unfolding as_held lent_region region_from
  lent_held = refl

  lent_passes : Passes lent
  unfolding asked_by_lent_write asked_by_write
  lent_passes =
      let all = (both (lent_whole patients tables entries) ((write_call_says patients tables entries m output left).accepted.0 wrote)).1 in
      let later : Asked = (12, room_for_numbers 1 left) ∷ (15, room_for_file (written_file lent) output) ∷ [] in
      no_no (asked_of_region (as_held lent)) (every_split (λ (a : ℕ × Bool). a.1) (asked_of_region (as_held lent)) later all).0

  pub written_then_read : WrittenThenRead patients tables entries m output left wrote
  written_then_read ps ts es result fine =
      read_region (written_file lent) ps ts es result fine ∙ written_region lent (passes_accepted lent lent_passes) ∙ lent_held
