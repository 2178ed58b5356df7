-- What the steps of the sums give: a row added to each of a list, and the sums copied back.
use Rattle.std.specs.Prelude.{◌≤◌, ◌-◌, ◌<◌, ◌≡◌, ◌&&◌, ◌∷◌, ◌++◌}
use Rattle.definitions.specs.Basics.{ℕ, zero, suc, Bool, eqb, ltb, List, [], map, length, take, sort}
use Rattle.definitions.specs.Plans.{Row, compare_rows}
use Rattle.lists.specs.Members.{◌∈◌}
use Rattle.ranking.specs.Combining.{cross}
use Rattle.ranking.specs.Rising.{Rising}
use Rattle.theorems.specs.List.{row_order}
use Rattle.partial_rows.specs.Adding.{add_rows}
use Rattle.packed_rows.specs.declared.Row as Code
use Rattle.packed_rows.specs.Packed.{row_of, Fit}
use Rattle.row_list.specs.Rows.{whole_row}
use Rattle.row_sums.specs.Sums.{work_part, whole_at}

-- The first n rows of a list, the last one first: a row that is reached later stands further in front.
unfoldable pub backwards : ℕ → List ℕ → List Row
backwards zero area = []
backwards (suc n) area = whole_row area n ∷ backwards n area

-- The third list holds the first m of these sums.
abbrev pub Holds : ℕ → ℕ → List ℕ → List Row → Type 0
Holds m n work sums = whole_at n 2 work ≡ take m (sort compare_rows sums)

-- Is the list full, and does its last row cost less than this?
abbrev pub exceeds_last : ℕ → ℕ → ℕ → List ℕ → Bool
exceeds_last n m cost area = eqb n m && ltb (whole_row area (m - 1)).cost cost

pub record AsksRow (m n b : ℕ) (x : Code.Row) (work : List ℕ) : Type 0 where
  pub some : 0 < m
  pub wanted : m ≤ 64
  pub held : n ≤ m
  pub second : b ≤ m
  pub long : 1_152 ≤ length work
  pub fits : (y : Row) → y ∈ whole_at b 1 work → Fit (row_of x) y

-- The area as it was, but for the third part.
pub record Kept (work after : List ℕ) : Type 0 where
  pub first : work_part 0 after ≡ work_part 0 work
  pub second : work_part 1 after ≡ work_part 1 work
  pub long : length after ≡ length work

-- Whatever sums the third list held the first of, the row's sums with the first j rows have joined them.
pub record Joined (m n j : ℕ) (x : Code.Row) (work after : List ℕ) (r : ℕ) : Type 0 where
  pub count : r ≤ m
  pub kept : Kept work after
  pub joined : (sums : List Row) → Holds m n work sums → Holds m r after (map (add_rows (row_of x)) (backwards j (work_part 1 work)) ++ sums)

-- So have its sums with all b rows, if those are in order.
abbrev pub InOrder : ℕ → List ℕ → Type 0
InOrder b work = Rising row_order (whole_at b 1 work)

pub record GivesRow (m n b : ℕ) (x : Code.Row) (work after : List ℕ) (r : ℕ) : Type 0 where
  pub count : r ≤ m
  pub kept : Kept work after
  pub joined : InOrder b work → (sums : List Row) → Holds m n work sums → Holds m r after (map (add_rows (row_of x)) (backwards b (work_part 1 work)) ++ sums)

-- The sums of the first i rows of the first list are found.
pub record Found (m b i : ℕ) (work after : List ℕ) (n : ℕ) : Type 0 where
  pub count : n ≤ m
  pub kept : Kept work after
  pub sums : InOrder b work → Holds m n after (cross add_rows (backwards i (work_part 0 work)) (backwards b (work_part 1 work)))

-- The first n rows of the third list stand in the first list too.
pub record Copied (n : ℕ) (work after : List ℕ) : Type 0 where
  pub rows : whole_at n 0 after ≡ whole_at n 2 work
  pub kept : work_part 2 after ≡ work_part 2 work
  pub long : length after ≡ length work
