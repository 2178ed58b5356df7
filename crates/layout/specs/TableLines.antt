-- What is read of the table lines, and what is held of them.
use Rattle.std.specs.Prelude.{◌≤◌, max, drop, ◌≡◌, ◌∷◌}
use Rattle.definitions.specs.Basics.{ℕ, true, some, is_some, List, map, flat_map, length}
use Rattle.definitions.specs.Syntax as Said
use Rattle.definitions.specs.Layout.{many, whole, lines, table_line, end_line}
use Rattle.held_region.specs.declared.Table.{Table}
use Rattle.held_region.specs.Meaning.{code_of}
use Rattle.held_region.specs.HeldFrom.{TablesHeld}
use Rattle.table_reader.specs.TableReading.{Holding, Adds}
use Rattle.layout.specs.declared.tables.Tables.{Tables}
use Rattle.layout.specs.Taken.{Taken}

-- The numbers of some tables: their entries one after the other.
abbrev pub stored_entries : List Said.Table → List ℕ
stored_entries tables = flat_map (λ t. map code_of t.entries) tables

-- On the way: the lines up to place i are taken, the first 64 tables that they say are held, and their entries are added to the store.
pub record TablesSoFar (s : List ℕ) (at : ℕ) (before : List ℕ) (first : List Table) (count used i : ℕ) (after : List ℕ) : Type 0 where
  pub said : List Said.Table
  pub taken : Taken (whole table_line) s at said i
  pub counted : count ≡ length said
  pub holds : TablesHeld first said
  pub wide : length first ≡ 64
  pub added : Adds 0 before after (stored_entries said)
  pub filled : used ≡ length (stored_entries said)
  pub few : used ≤ i

-- The tables that the lines from a place on say, and the place of the lines after them. Where the end line follows, the store has their entries.
pub record TableLines (s : List ℕ) (at : ℕ) (r : Tables) (before after : List ℕ) : Type 0 where
  pub said : List Said.Table
  pub read : many (whole table_line) (lines (drop at s)) ≡ some (said, lines (drop r.next s))
  pub counted : r.count ≡ length said
  pub holds : TablesHeld r.first said
  pub ahead : at ≤ r.next
  pub within : r.next ≤ max at (length s)
  pub stored : length before ≡ 4096 → (l : List ℕ) (ls : List (List ℕ)) → lines (drop r.next s) ≡ l ∷ ls → is_some (whole end_line l) ≡ true → Holding after (stored_entries said)
