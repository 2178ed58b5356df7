-- Loops over places that write one line after the other, and parts of the store.
use Rattle.std.proofs.Common.{arith, sym, length-drop, drop, take, length, ◌≡◌, ◌-◌}
use Rattle.std.proofs.lemmas.List.{get_or-drop}
use Prim.Native.Nat.{◌≤◌}
use Rattle.std.specs.Prelude.{◌+◌, ◌<◌, ◌∷◌}
use Rattle.definitions.specs.Basics.{ℕ, List, [], map, get_or, below, flatten, text}
use Rattle.definitions.specs.Spelling.{spell_table}
use Rattle.lists.specs.Below.{length_by_places, at_place, below_take}
use Rattle.text_writer.specs.Wrote.{Wrote, Left}
use Rattle.text_writer.specs.Parts.{lines_from, line_left, lines_done}
use Rattle.text_writer.specs.Parts.{apart}
use Rattle.held_region.specs.declared.Table.{Table}
use Rattle.region_lines.specs.Codes.{spell_code}
use Rattle.region_lines.specs.Spelled.{codes_from, table_from, table_parts}
use Rattle.region_lines.specs.Writable.{TableFits, members_taken}

module _ {A : Type 0} (spell : A → List ℕ) (f : ℕ → A) (n i : ℕ) {whole out now : List ℕ} {at place : ℕ}
    (left : Left whole at out (lines_from spell (map f (below n)) i ∷ []) now place) where
  pub place_left : i < n → Left whole at out (spell (f i) ∷ lines_from spell (map f (below n)) (i + 1) ∷ []) now place
  place_left h = rw (at_place f (f i) n i h) at (line_left spell (map f (below n)) i left (f i) (omega (arith, length_by_places f 0 n)))

  pub places_written : n ≤ i → Wrote whole at out now place
  places_written h = lines_done spell (map f (below n)) i left (omega (arith, length_by_places f 0 n))

-- Entries that stand in the store from a place on are a part of it.
pub codes_taken : (store : List ℕ) (start count : ℕ) → start + count ≤ length store → take (start + count - start) (drop start store) ≡ codes_from store start count
codes_taken store start count inside =
    let size : start + count - start ≡ count = omega arith in
    rw size (sym (below_take (λ k. get_or store (start + k) 0) (drop start store) count (omega (arith, length-drop start store)) (λ k h. sym (get_or-drop start store k 0))))

-- A table's line, in the parts in which it is written.
pub written_parts : (store : List ℕ) (start : ℕ) (t : Table) → length store ≡ 4096 → length t.first ≡ 4 → TableFits t start
    → spell_table (table_from store start t)
    ≡ flatten (text "(cost (" ∷ apart 0 (map spell_code (take t.members t.first)) ∷ text ") (" ∷ apart 0 (map spell_code (take (start + t.entries - start) (drop start store))) ∷ text "))\n" ∷ [])
written_parts store start t long four fits =
    rw (members_taken t (omega (arith, fits.few)), codes_taken store start t.entries (omega (arith, fits.inside))) (table_parts store start t fits.members)
