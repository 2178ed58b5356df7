-- The cheapest sums of a row of one list and a row of another: what is asked and what is given.
use Rattle.std.specs.Prelude.{◌≤◌, drop, ◌*◌, ◌<◌, ◌≡◌}
use Rattle.definitions.specs.Basics.{ℕ, List, length, take}
use Rattle.definitions.specs.Plans.{Row}
use Rattle.lists.specs.Members.{◌∈◌}
use Rattle.ranking.specs.First.{First, Sorted}
use Rattle.ranking.specs.Combining.{Combined, Injective}
use Rattle.theorems.specs.List.{row_order}
use Rattle.partial_rows.specs.Adding.{add_rows}
use Rattle.packed_rows.specs.Packed.{Fit}
use Rattle.row_list.specs.Rows.{whole_rows, rows_in}

-- The three parts of the work area, 384 words each: the list so far, the next list, their sums.
unfoldable pub work_part : ℕ → List ℕ → List ℕ
work_part i work = take 384 (drop (i * 384) work)

-- The first n rows of a part, with 32 beds each, and for v patients.
abbrev pub whole_at : ℕ → ℕ → List ℕ → List Row
whole_at n i work = whole_rows n (work_part i work)

abbrev pub list_at : ℕ → ℕ → ℕ → List ℕ → List Row
list_at v n i work = rows_in v n (work_part i work)

pub record Asks (m a b : ℕ) (work : List ℕ) : Type 0 where
  pub some : 0 < m
  pub wanted : m ≤ 64
  pub first : a ≤ m
  pub second : b ≤ m
  pub long : 1_152 ≤ length work
  pub fits : (x y : Row) → x ∈ whole_at a 0 work → y ∈ whole_at b 1 work → Fit x y

-- The first m sums are the list so far, if each list was in order and a sum shows its rows.
pub record Gives (m a b : ℕ) (work after : List ℕ) (n : ℕ) : Type 0 where
  pub count : n ≤ m
  pub long : length after ≡ length work
  pub first : Sorted row_order (whole_at a 0 work) → Sorted row_order (whole_at b 1 work)
      → Injective add_rows (λ x. x ∈ whole_at a 0 work) (λ y. y ∈ whole_at b 1 work)
      → First row_order m (Combined add_rows (λ x. x ∈ whole_at a 0 work) (λ y. y ∈ whole_at b 1 work)) (whole_at n 0 after)
