-- Rows that lie in an area of numbers, six to a row: the cost in two words, the low one first, and the packed beds of 32 patients in four.
use Rattle.std.specs.Prelude.{◌⊎◌, ◌≤◌, ◌+◌, ◌*◌, ◌<◌, ◌≡◌}
use Rattle.definitions.specs.Basics.{ℕ, List, map, length, get_or, take, below, insert}
use Rattle.definitions.specs.Plans as Said
use Rattle.definitions.specs.Plans.{compare_rows}
use Rattle.lists.specs.Members.{◌∈◌}
use Rattle.ranking.specs.Rising.{Rising}
use Rattle.theorems.specs.List.{row_order}
use Rattle.partial_rows.specs.Padding.{unpadded}
use Rattle.packed_rows.specs.Packed.{packed_beds, row_of}
use Rattle.packed_rows.specs.declared.Row.{Row}

-- The four words of row i's beds; row i of an area, with the beds of all 32; the first n rows.
abbrev pub words_in : List ℕ → ℕ → List ℕ
words_in area i = map (λ k. get_or area (i * 6 + 2 + k) 0) (below 4)

unfoldable pub whole_row : List ℕ → ℕ → Said.Row
whole_row area i = record { cost = get_or area (i * 6) 0 + get_or area (i * 6 + 1) 0 * 4_294_967_296; beds = packed_beds (words_in area i) }

unfoldable pub whole_rows : ℕ → List ℕ → List Said.Row
whole_rows n area = map (whole_row area) (below n)

-- The same rows, for v patients.
abbrev pub row_in : ℕ → List ℕ → ℕ → Said.Row
row_in v area i = unpadded v (whole_row area i)

abbrev pub rows_in : ℕ → ℕ → List ℕ → List Said.Row
rows_in v n area = map (unpadded v) (whole_rows n area)

-- The area after row i was written: the row, and the others as they were.
pub record Stored (i : ℕ) (x : Row) (area after : List ℕ) : Type 0 where
  pub row : whole_row after i ≡ row_of x
  pub others : (j : ℕ) → (j ≡ i → ⊥) → whole_row after j ≡ whole_row area j
  pub long : length after ≡ length area

-- The area has room for 64 rows, n of at most m are held.
pub record Room (n m : ℕ) (area : List ℕ) : Type 0 where
  pub held : n ≤ m
  pub wanted : m ≤ 64
  pub some : 0 < m
  pub long : 384 ≤ length area

-- The area after a row was inserted, and how many rows it then holds: among rows in order it is where it belongs.
pub record Inserted (n m : ℕ) (x : Row) (area after : List ℕ) (r : ℕ) : Type 0 where
  pub count : r ≤ m
  pub rows : Rising row_order (whole_rows n area) → whole_rows r after ≡ take m (insert compare_rows (row_of x) (whole_rows n area))
  pub members : (z : Said.Row) → z ∈ whole_rows r after → (z ≡ row_of x) ⊎ (z ∈ whole_rows n area)
  pub long : length after ≡ length area
