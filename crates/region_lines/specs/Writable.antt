-- What the functions that write an accepted region's lines rely on.
use Rattle.std.specs.Prelude.{◌≡◌, refl, ◌≤◌}
use Rattle.std.proofs.Common.{sym, ap, ◌∙◌, arith, ◌+◌, ◌<◌, ◌&&◌, ◌∷◌}
use Rattle.std.proofs.Math.ListN.{length-append}
use Rattle.std.proofs.lemmas.List.{length-replicate}
use Rattle.definitions.specs.Basics.{ℕ, suc, true, not, List, [], length, get_or, take, replicate, below, text, every, is_empty}
use Rattle.definitions.specs.Limits.{file_length, limits}
use Rattle.definitions.specs.Spelling.{decimal, line, spellable, spell_body, spell}
use Rattle.definitions.specs.Writer.{as_held}
use Rattle.lists.specs.Tests.{both}
use Rattle.lists.specs.Every.{every_map}
use Rattle.lists.specs.Below.{every_place, below_take}
use Rattle.theorems.specs.Accepted.{Accepted, plans_wanted_lem}
use Rattle.theorems.specs.Forms.{ok_head, ok_patient, ok_table}
use Rattle.theorems.specs.Files.{LinesOk, well_formed_lines}
use Rattle.theorems.specs.Lengths.{most_written}
use Rattle.theorems.specs.Writer.{written_formed}
use Rattle.theorems.proofs.Writer.{written_short}
use Rattle.held_region.specs.declared.Table.{Table}
use Rattle.held_region.specs.declared.Region.{Region}
use Rattle.held_region.specs.Meaning.{patient_of, patient_in, members_of, table_in, start_in, table_said, said}
use Rattle.held_region.specs.Asked.{tables_by_places, starts_said}
use Rattle.held_region.specs.AsHeld.{said_held, file_said}
use Rattle.held_region.specs.Stores.{start_most}
use Rattle.held_region.specs.Entries.{total_most}
use Rattle.held_region.specs.Sound.{has_places, accepted_sound, members_held}
use Rattle.text_writer.specs.Wrote.{Room}
use Rattle.region_lines.specs.Spelled.{patients_said}

-- Patients that have their places and can be spelled.
pub record PatientsFit (h : Region) : Type 0 where
  pub places : h.v ≤ 32
  pub lines : every ok_patient (patients_said h) ≡ true

pub patient_fits_lem : (h : Region) → PatientsFit h → (s : ℕ) → s < h.v → ok_patient (patient_of (patient_in h s)) ≡ true
patient_fits_lem h fit s l = every_place _ h.v s (sym (every_map ok_patient (λ q. patient_of (patient_in h q)) (below h.v)) ∙ fit.lines) l

-- A table that has its places, whose entries lie in the store from a place on, and whose members can be spelled.
pub record TableFits (t : Table) (start : ℕ) : Type 0 where
  pub few : t.members ≤ 4
  pub inside : start + t.entries ≤ 4096
  pub members : every spellable (members_of t) ≡ true

-- Its members stand at the first places.
pub members_taken : (t : Table) → t.members ≤ length t.first → take t.members t.first ≡ members_of t
members_taken t h = sym (below_take (λ j. get_or t.first j 0) t.first t.members h (λ j l. refl))

-- Of a whole region.
pub record Writable (h : Region) (store : List ℕ) : Type 0 where
  pub head : ok_head (h.v, h.t, h.m) ≡ true
  pub wanted : h.m ≤ 64
  pub patients : PatientsFit h
  pub few : h.t ≤ 64
  pub tables : (i : ℕ) → i < h.t → TableFits (table_in h i) (start_in h i)
  pub end : spellable (said h store).stated_sum ≡ true

module _ (h : Region) (store : List ℕ) where
  module _ (a : Accepted (said h store)) where
    held_accepted : Accepted (as_held (said h store))
    held_accepted = rw (said_held h store) a

    file_short : length (spell (said h store)) ≤ most_written
    file_short = rw (file_said h store) at (written_short (said h store) held_accepted)

    -- The file has room in an area of so many bytes, and the lines before the end line are no longer than a file may be.
    pub file_room : Room (spell (said h store)) 0 (replicate most_written 0)
    file_room = omega (arith, file_short, length-replicate {A = ℕ} most_written 0)

    pub body_short : length (spell_body (said h store)) ≤ (limits file_length).highest
    unfolding spell limits
    body_short =
        let end = line (text "end" ∷ decimal (said h store).stated_sum ∷ []) in
        omega (arith, file_short, length-append (spell_body (said h store)) end)

    lines_ok : LinesOk (said h store)
    lines_ok = well_formed_lines (said h store) (rw (said_held h store) at (written_formed (said h store) held_accepted))

    -- The entries of a table end where the next begins, and all within the store.
    start_inside : (i : ℕ) → i < h.t → start_in h i + (table_in h i).entries ≤ 4096
    start_inside i l = omega (arith, start_most (said h store).tables (suc i), starts_said h store (suc i) (omega arith), total_most (said h store) a.entry_counts_fit)

    table_ok : (i : ℕ) → i < h.t → ok_table (table_said h store i) ≡ true
    table_ok i l = every_place (λ j. ok_table (table_said h store j)) h.t i (sym (ap (every ok_table) (tables_by_places h store) ∙ every_map ok_table (table_said h store) (below h.t)) ∙ lines_ok.tables) l

    pub writable : Writable h store
    unfolding said
    writable =
        let places = has_places h store a.counts_fit in
        record {
          head = lines_ok.head;
          wanted = (plans_wanted_lem (said h store) a).1;
          patients = record { places = places.patients; lines = lines_ok.patients };
          few = places.tables;
          tables = λ i l. record {
            few = members_held h (accepted_sound h store a) i l;
            inside = start_inside i l;
            members = (both (not (is_empty (members_of (table_in h i)))) (both (not (is_empty (members_of (table_in h i))) && every spellable (members_of (table_in h i))) (table_ok i l)).0).1;
          };
          end = lines_ok.end;
        }
