-- Where a store has the entries of each of some tables: one table behind the other.
use Rattle.std.specs.Prelude.{◌≡◌, ◌≤◌}
use Rattle.std.proofs.Math.Path.{refl}
use Rattle.std.proofs.Common.{ap, ◌∙◌, ◌+◌, ◌<◌, ◌∷◌}
use native.Mathlib.Omega.{arith}
use Rattle.definitions.specs.Basics.{ℕ, zero, suc, none, List, [], length, get_or}
use Rattle.definitions.specs.Syntax.{Table, Region}
-- The number of entries of all tables.
pub use Rattle.definitions.specs.Questions.{entries_of}
use Rattle.held_region.specs.Meaning.{code_of, said_by, sum_before}

-- The table of a number.
abbrev pub at : List Table → ℕ → Table
at tables i = get_or tables i (record { members = []; entries = [] })

abbrev pub table_at : Region → ℕ → Table
table_at r i = at r.tables i

-- The number of entries of the first tables: where the next table's begin.
unfoldable pub start_of : List Table → ℕ → ℕ
start_of tables = sum_before (λ i. length (at tables i).entries)

pub start_next : (tables : List Table) (i : ℕ) → start_of tables (suc i) ≡ start_of tables i + length (at tables i).entries
unfolding start_of
start_next tables i = refl

-- The first count, and the sum of those after it.
sum_first : (count : ℕ → ℕ) (i : ℕ) → sum_before count (suc i) ≡ count 0 + sum_before (λ j. count (suc j)) i
sum_first count zero = omega arith
sum_first count (suc i) = omega (arith, sum_first count i)

pub start_first : (t : Table) (tables : List Table) (i : ℕ) → start_of (t ∷ tables) (suc i) ≡ length t.entries + start_of tables i
unfolding start_of
start_first t tables i = sum_first (λ j. length (at (t ∷ tables) j).entries) i

pub start_all : (tables : List Table) → start_of tables (length tables) ≡ entries_of tables
start_all [] = unfold start_of in refl
start_all (t ∷ tables) = start_first t tables (length tables) ∙ ap (λ n. length t.entries + n) (start_all tables)

pub start_most : (tables : List Table) (i : ℕ) → start_of tables i ≤ entries_of tables
start_most tables zero = unfold start_of in omega arith
start_most [] (suc i) = unfold start_of in none_more i
  where
    none_more : (i : ℕ) → sum_before (λ j. length (at [] j).entries) (suc i) ≤ 0
    none_more zero = omega arith
    none_more (suc i) = omega (arith, none_more i)
start_most (t ∷ tables) (suc i) = omega (arith, start_first t tables i, start_most tables i)

-- The store's numbers from a table's start on say its entries.
abbrev pub SaysEntries : List ℕ → List Table → Type 0
SaysEntries store tables = (i q : ℕ) → i < length tables → q < length (at tables i).entries → said_by (get_or store (start_of tables i + q) 0) ≡ get_or (at tables i).entries q none

-- The store has the entries of each table from its start on.
abbrev pub HasEntries : List ℕ → List Table → Type 0
HasEntries store tables = (i q : ℕ) → i < length tables → q < length (at tables i).entries → get_or store (start_of tables i + q) 0 ≡ code_of (get_or (at tables i).entries q none)
