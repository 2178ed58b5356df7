-- Read, the mirror of write: what its number says, what it leaves in the lent areas, and that writing what was read gives the file back.
-- (Theorems that rest on these stand in `proofs/Reading.antt`.)
use Rattle.std.specs.Prelude.{◌≡◌, ◌≤◌, ◌*◌, ◌∷◌, ◌++◌}
use Rattle.std.proofs.Math.ListN.{drop}
use Rattle.definitions.specs.Basics.{ℕ, true, List, [], length, take}
use Rattle.definitions.specs.Syntax.{Region}
use Rattle.definitions.specs.Questions.{Asked, entries_of, asked_by_check, check_of, call_asks}
use Rattle.definitions.specs.Writer.{written_file, room_for_file, made_by}
use Rattle.definitions.specs.Boundary.{number_at, room_for_numbers, result_after, lent_region, write_call_of, write_call}
use Rattle.definitions.specs.Boundary.{asked_by_read, ReadCall, read_call_of, read_call}
use Rattle.lists.specs.Every.{every_split}
use Rattle.theorems.specs.Answers.{all_yes, Says, says}
use Rattle.theorems.specs.Refusals.{ResultZeroed, check_says}
use Rattle.theorems.specs.Lending.{lend_patients, lend_tables, lend_entries}

-- ---- what read leaves, by its number

-- Number 0: patients, tables and entries stand at the beginning of their areas, and the result area tells how many there are, and m.
pub record WasRead (r : Region) (patients tables entries : List ℕ) (c : ReadCall) : Type 0 where
  pub each_patient : c.patients ≡ lend_patients r.patients ++ drop (r.patient_count * 32) patients
  pub each_table : c.tables ≡ lend_tables r.tables ++ drop (r.table_count * 48) tables
  pub each_entry : c.entries ≡ lend_entries r.tables ++ drop (entries_of r.tables * 8) entries
  pub patient_count : number_at c.result 0 ≡ r.patient_count
  pub table_count : number_at c.result 1 ≡ r.table_count
  pub plans_wanted : number_at c.result 2 ≡ r.plans_wanted
  pub entry_count : number_at c.result 3 ≡ entries_of r.tables

-- A refusal: nothing is read.
pub record NotRead (patients tables entries result : List ℕ) (c : ReadCall) : Type 0 where
  pub patients_kept : c.patients ≡ patients
  pub tables_kept : c.tables ≡ tables
  pub entries_kept : c.entries ≡ entries
  pub no_counts : ResultZeroed 4 result c.result

module _ (file patients tables entries result : List ℕ) where
  abbrev pub call : ReadCall
  call = read_call file patients tables entries result

  abbrev asked : Asked
  asked = call_asks (asked_by_read file patients tables entries) (room_for_numbers 4 result)

  pub read_call_says : Says asked call.number
  unfolding read_call read_call_of asked_by_read asked_by_check
  read_call_says = says asked tt

  -- ---- number 0

  module _ (fine : call.number ≡ 0) where
    pub all_asked_lem : all_yes asked ≡ true
    all_asked_lem = read_call_says.accepted.0 fine

    -- The file is a good one, ..
    pub file_fine : check_of file ≡ 0
    unfolding asked_by_read
    file_fine = (check_says file).accepted.1 (every_split _ (asked_by_check file) _ all_asked_lem).0

    -- ---- writing what was read

    -- The first 32 V, 48 T and 8 N bytes of the areas, as a program takes them by the counts in the result area.
    abbrev pub patients_read : List ℕ
    patients_read = take (number_at call.result 0 * 32) call.patients

    abbrev pub tables_read : List ℕ
    tables_read = take (number_at call.result 1 * 48) call.tables

    abbrev pub entries_read : List ℕ
    entries_read = take (number_at call.result 3 * 8) call.entries

    abbrev pub plans_read : ℕ
    plans_read = number_at call.result 2

    -- Writing what was read asks only 12 and 15, and gives the file back.
    abbrev pub ReadThenWritten : Type 0
    ReadThenWritten = (output left : List ℕ)
        → write_call patients_read tables_read entries_read plans_read output left ≡ write_call_of (made_by ((12, room_for_numbers 1 left) ∷ (15, room_for_file file output) ∷ []) file) [] output left

    -- So with room for it, the output area begins with the file, and the result area has its length.
    abbrev pub FileBack : Type 0
    FileBack = (output left : List ℕ) → length file ≤ length output → 8 ≤ length left
        → write_call patients_read tables_read entries_read plans_read output left
        ≡ record { number = 0; output = file ++ drop (length file) output; result = result_after (length file ∷ []) left }

-- ---- reading what was written

-- What write made of lent areas, read again, is the region that was lent. (The places past a table's members may differ: they are ignored.)
module _ (patients tables entries : List ℕ) (m : ℕ) (output left : List ℕ) (wrote : (write_call patients tables entries m output left).number ≡ 0) where
  abbrev pub lent : Region
  lent = lent_region patients tables entries m

  abbrev pub WrittenThenRead : Type 0
  WrittenThenRead = (ps ts es result : List ℕ) (fine : (read_call (written_file lent) ps ts es result).number ≡ 0)
      → lent_region (patients_read (written_file lent) ps ts es result fine) (tables_read (written_file lent) ps ts es result fine) (entries_read (written_file lent) ps ts es result fine) (plans_read (written_file lent) ps ts es result fine)
      ≡ lent
