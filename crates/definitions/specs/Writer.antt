-- Request #101: the writer. From the held region it writes the file of document 01, end line included.
use Rattle.std.specs.Prelude.{◌∷◌}
use Rattle.definitions.specs.Basics.{ℕ, Bool, List, [], length, sets, leb}
use Rattle.definitions.specs.Syntax.{Patient, Table, Region}
use Rattle.definitions.specs.Spelling.{spell_body, spell}
use Rattle.definitions.specs.Questions.{checksum, Asked, first_no, asked_of_region, Asks, entry_asks}
use Rattle.definitions.specs.Outcomes.{unless_refused}

-- A region with its true sum. (That goes over the lines before the end line, whatever the end line says.)
abbrev pub with_sum : Region → Region
with_sum r = record {
  patient_count = r.patient_count;
  table_count = r.table_count;
  plans_wanted = r.plans_wanted;
  patients = r.patients;
  tables = r.tables;
  stated_sum = checksum (spell_body r);
}

-- The region of m, patients and tables: V and T count them, n is the true sum.
unfoldable pub region_from : ℕ → List Patient → List Table → Region
region_from m patients tables = with_sum (record { patient_count = length patients; table_count = length tables; plans_wanted = m; patients = patients; tables = tables; stated_sum = 0 })

-- A region as it is held: m, patients and tables. Its counts and its sum are made of these, never taken.
unfoldable pub as_held : Region → Region
as_held r = region_from r.plans_wanted r.patients r.tables

-- The file that is written of it.
unfoldable pub written_file : Region → List ℕ
written_file r = spell (as_held r)

-- 15. Is the output area long enough?
unfoldable pub room_for_file : List ℕ → List ℕ → Bool
room_for_file file output = leb (length file) (length output)

-- The writer asks questions 5 to 10 of the held region, then 15.
unfoldable pub asked_by_write : Region → List ℕ → Asks
asked_by_write r output = record { first = asked_of_region (as_held r); later = (15, room_for_file (written_file r) output) ∷ [] }

-- What a writer makes: the number, and the bytes of the file, none on a refusal.
pub record Made : Type 0 where
  pub number : ℕ
  pub bytes : List ℕ

abbrev pub made_by : Asked → List ℕ → Made
made_by asked file = record { number = first_no asked; bytes = unless_refused (first_no asked) file }

-- The output area afterwards: the bytes stand at its beginning, and beyond them it is untouched.
abbrev pub output_after : Made → List ℕ → List ℕ
output_after made output = sets output 0 made.bytes

-- What a writer gives back: the number, the byte count, and the output area.
pub record WriteOutcome : Type 0 where
  pub number : ℕ
  pub count : ℕ
  pub output : List ℕ

unfoldable pub write_outcome_of : Made → List ℕ → WriteOutcome
write_outcome_of made output = record { number = made.number; count = length made.bytes; output = output_after made output }

unfoldable pub write_outcome : Region → List ℕ → WriteOutcome
write_outcome r output = write_outcome_of (made_by (entry_asks (asked_by_write r output)) (written_file r)) output
