-- What the small steps of an insertion give: the place of a row, and the words that make room for it.
use Rattle.std.specs.Prelude.{◌≤◌, drop, ◌-◌, ◌<◌, ◌≡◌, ◌∷◌, ◌++◌}
use Rattle.definitions.specs.Basics.{ℕ, List, length, get_or, take, insert}
use Rattle.definitions.specs.Plans.{compare_rows}
use Rattle.ranking.specs.Rising.{Rising}
use Rattle.theorems.specs.List.{row_order}
use Rattle.packed_rows.specs.Packed.{row_of}
use Rattle.packed_rows.specs.declared.Row.{Row}
use Rattle.row_list.specs.Rows.{whole_rows}

-- A row is inserted at this place, if the rows are in order.
pub record Place (n : ℕ) (x : Row) (area : List ℕ) (r : ℕ) : Type 0 where
  pub within : r ≤ n
  pub here : Rising row_order (whole_rows n area) → insert compare_rows (row_of x) (whole_rows n area) ≡ take r (whole_rows n area) ++ row_of x ∷ drop r (whole_rows n area)

-- The words from one place up to another are those that stood six places before, and the words below them are as they were.
pub record Moved (from to : ℕ) (area after : List ℕ) : Type 0 where
  pub low : (k : ℕ) → k < from → get_or after k 0 ≡ get_or area k 0
  pub moved : (k : ℕ) → from ≤ k → k < to → get_or after k 0 ≡ get_or area (k - 6) 0
  pub long : length after ≡ length area
