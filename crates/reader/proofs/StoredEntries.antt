-- Where a store that holds the entries of some tables has those of each.
use mathlib.Core.Path.{◌≡◌, refl, ap, ap₂, ◌∙◌}
use Prim.Native.Nat.{◌≤◌}
use native.Mathlib.Omega.{arith}
use lib.ListN.{length-append, length-map, get_or-append}
use lib.Seq.{get_or-append-add}
use Rattle.std.specs.Prelude.{◌+◌, ◌<◌, ◌∷◌}
use Rattle.definitions.specs.Basics.{ℕ, zero, suc, none, List, [], map, flat_map, length, get_or}
use Rattle.definitions.specs.Syntax.{Table}
use Rattle.lists.specs.Maps.{map_at}
use Rattle.held_region.specs.Meaning.{code_of}
use Rattle.held_region.specs.Stores.{start_of, entries_of, at, start_next, start_first, start_most, HasEntries}
use Rattle.table_reader.specs.TableReading.{Holding}
use Rattle.layout.specs.TableLines.{stored_entries}

length_stored : (tables : List Table) → length (stored_entries tables) ≡ entries_of tables
unfolding flat_map
length_stored [] = refl
length_stored (t ∷ tables) = length-append (map code_of t.entries) (stored_entries tables) ∙ ap₂ (λ a b. a + b) (length-map t.entries code_of) (length_stored tables)

code_at : (tables : List Table) (i q : ℕ) → i < length tables → q < length (at tables i).entries
    → get_or (stored_entries tables) (start_of tables i + q) 0 ≡ code_of (get_or (at tables i).entries q none)
unfolding flat_map
code_at [] i q h l = absurd (omega arith)
code_at (t ∷ tables) zero q h l =
    let from : start_of (t ∷ tables) 0 + q ≡ q = unfold start_of in omega arith in
    ap (λ n. get_or (stored_entries (t ∷ tables)) n 0) from
    ∙ get_or-append (map code_of t.entries) (stored_entries tables) 0 q (omega (arith, length-map t.entries code_of)) ∙ map_at code_of t.entries q none 0 l
code_at (t ∷ tables) (suc i) q h l =
    let from : start_of (t ∷ tables) (suc i) + q ≡ length (map code_of t.entries) + (start_of tables i + q) = omega (arith, start_first t tables i, length-map t.entries code_of) in
    ap (λ n. get_or (stored_entries (t ∷ tables)) n 0) from
    ∙ get_or-append-add (map code_of t.entries) (stored_entries tables) (start_of tables i + q) 0 ∙ code_at tables i q (omega arith) l

-- Where all entries have their place in the store, a table's stand from its start on.
pub stands_held : (store : List ℕ) (tables : List Table) → Holding store (stored_entries tables) → entries_of tables ≤ 4096 → HasEntries store tables
stands_held store tables held most i q h l =
    let inside : start_of tables i + q < entries_of tables = omega (arith, start_next tables i, start_most tables (suc i)) in
    held.stored.held (start_of tables i + q) (omega (arith, held.wide)) (omega (arith, length_stored tables)) ∙ code_at tables i q h l
