-- What it takes to hold a region that is said: its first patients, tables and entries, each as it is said.
use Rattle.std.specs.Prelude.{◌≤◌, ◌≡◌}
use Rattle.definitions.specs.Basics.{ℕ, Bool, true, none, none_or, List, [], length, take, ltb, every}
use Rattle.definitions.specs.Syntax as Said
use Rattle.definitions.specs.Spelling.{spell_body}
use Rattle.definitions.specs.Questions.{counts_true, checksum}
use Rattle.held_region.specs.declared.Patient.{Patient}
use Rattle.held_region.specs.declared.Table.{Table}
use Rattle.held_region.specs.declared.Region.{Region}
use Rattle.held_region.specs.Meaning.{no_patient, patient_of, mark, no_table}
use Rattle.held_region.specs.Stores.{entries_of, HasEntries}
use Rattle.held_region.specs.FirstHeld.{FirstHeld}

-- What stands at a place where no patient, and where no table, is said.
abbrev pub none_said : Said.Patient
none_said = record { clinic = 0; bed_count = 0; parent = none; fixed_bed = none }

abbrev pub no_table_said : Said.Table
no_table_said = record { members = []; entries = [] }

-- A patient is held as it is said.
abbrev pub HoldsPatient : Patient → Said.Patient → Type 0
HoldsPatient p q = patient_of p ≡ q

-- The first 32 of the patients that are said are held.
abbrev pub HeldPatients : List Patient → List Said.Patient → Type 0
HeldPatients = FirstHeld 32 HoldsPatient no_patient none_said

-- A table is held as it is said: its first four members, and how many members and entries it has.
pub record HoldsTable (h : Table) (t : Said.Table) : Type 0 where
  pub member_count : h.members ≡ length t.members
  pub members : take (length t.members) h.first ≡ take 4 t.members
  pub entry_count : h.entries ≡ length t.entries

-- The first 64 of the tables that are said are held.
abbrev pub TablesHeld : List Table → List Said.Table → Type 0
TablesHeld = FirstHeld 64 HoldsTable no_table no_table_said

-- Is no number of a table the mark?
abbrev pub unmarked : Said.Table → Bool
unmarked t = every (none_or (λ e. ltb e mark)) t.entries

-- A held region and a store hold a region that is said, whose counts and whose sum are true: its first patients and tables, and its entries where all have a place.
pub record HeldFrom (h : Region) (store : List ℕ) (r : Said.Region) : Type 0 where
  pub patient_count : h.v ≡ r.patient_count
  pub table_count : h.t ≡ r.table_count
  pub plans_wanted : h.m ≡ r.plans_wanted
  pub counted : counts_true r ≡ true
  pub summed : r.stated_sum ≡ checksum (spell_body r)
  pub patients : HeldPatients h.patients r.patients
  pub tables : TablesHeld h.tables r.tables
  pub entries : entries_of r.tables ≤ 4096 → HasEntries store r.tables
  pub unmarked : every unmarked r.tables ≡ true
