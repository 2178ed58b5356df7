-- What is read of a table line, and what is held of it.
use Rattle.std.specs.Prelude.{◌≤◌, drop, ◌≡◌, ◌++◌}
use Rattle.std.specs.Prelude as Code
use Rattle.definitions.specs.Basics.{ℕ, Option, none, some, List, map, length}
use Rattle.definitions.specs.Syntax as Said
use Rattle.definitions.specs.Layout.{Reader, whole, word, number, hyphen_or_number, items, table_line}
use Rattle.held_region.specs.declared.Table.{Table}
use Rattle.held_region.specs.Meaning.{code_of}
use Rattle.held_region.specs.FirstHeld.{FirstHeld}
use Rattle.held_region.specs.HeldFrom.{HoldsTable}
use Rattle.table_reader.specs.declared.Members.{Members}
use Rattle.table_reader.specs.Stores.{Stored}
use Rattle.table_reader.specs.TakenItems.{ItemsTaken, ListRead}

-- An answer that may be missing: what holds of what is there, and what holds where nothing is.
pub record Found {A : Type 0} (r : Code.Option A) (There : A → Type 0) (Missing : Type 0) : Type 0 where
  pub there : (a : A) → r ≡ Code.Some a → There a
  pub missing : r ≡ Code.None → Missing

module _ {A : Type 0} (item : Reader ℕ A) (Kept : List A → Type 0) (s : List ℕ) (at count : ℕ) where
  -- On the way through a list: the items before place i are taken, counted and kept.
  pub record ItemsSoFar (i : ℕ) : Type 0 where
    pub said : List A
    pub taken : ItemsTaken item s at said i
    pub counted : count ≡ length said
    pub kept : Kept said

  -- At its end: all items are, and next is the place after the list.
  pub record ItemsThere (next : ℕ) : Type 0 where
    pub said : List A
    pub list : ListRead item s at said next
    pub counted : count ≡ length said
    pub kept : Kept said

-- The first four of the members that are said are held.
pub record MembersHeld (first said : List ℕ) : Type 0 where
  pub holds : FirstHeld 4 (λ a b. a ≡ b) 0 0 first said
  pub wide : length first ≡ 4

-- The list of members at a place, or there is none.
abbrev pub MembersRead : List ℕ → ℕ → Code.Option Members → Type 0
MembersRead s at r = Found r (λ m. ItemsThere number (MembersHeld m.first) s at m.count m.next) (items number (drop at s) ≡ none)

-- The store, 4,096 wide, holds these numbers as far as it goes.
pub record Holding (store numbers : List ℕ) : Type 0 where
  pub wide : length store ≡ 4096
  pub stored : Stored store numbers

-- A store that held so many numbers as are used holds more behind them.
pub record Adds (used : ℕ) (before after numbers : List ℕ) : Type 0 where
  pub behind : (others : List ℕ) → length others ≡ used → Holding before others → Holding after (others ++ numbers)

-- The entries that are said are added to the store.
abbrev pub EntriesAdded : ℕ → List ℕ → List ℕ → List (Option ℕ) → Type 0
EntriesAdded used before after said = Adds used before after (map code_of said)

-- The list of entries at a place, or there is none; then the store may have changed.
abbrev pub EntriesRead : List ℕ → ℕ → ℕ → List ℕ → List ℕ → Code.Option (ℕ × ℕ) → Type 0
EntriesRead s at used before after r = Found r (λ l. ItemsThere hyphen_or_number (EntriesAdded used before after) s at l.0 l.1) (items hyphen_or_number (drop at s) ≡ none)

-- A table line is said, its table is held, and its entries are added to the store.
pub record TableThere (line : List ℕ) (used : ℕ) (before after : List ℕ) (h : Table) : Type 0 where
  pub said : Said.Table
  pub read : whole table_line line ≡ some said
  pub holds : HoldsTable h said
  pub added : EntriesAdded used before after said.entries
  pub few : length said.entries ≤ length line

-- A line that does not begin as a table line does leaves the store as it was.
pub record TableRead (line : List ℕ) (used : ℕ) (before after : List ℕ) (r : Code.Option Table) : Type 0 where
  pub answer : Found r (TableThere line used before after) (whole table_line line ≡ none)
  pub kept : word "(cost " line ≡ none → after ≡ before
