-- The lent areas: when they are long enough, what they must hold for rows to be written, and what they hold afterwards.
use Rattle.std.specs.Prelude.{◌≤◌, ◌*◌, ◌<◌, ◌≡◌, ◌&&◌, ◌∷◌}
use Rattle.definitions.specs.Basics.{ℕ, Bool, List, [], length, leb}
use Rattle.definitions.specs.Questions.{work_size}
use Rattle.definitions.specs.Outcomes.{written}
use Rattle.row_list.specs.Rows.{row_in, rows_in}

-- Question 12, of the counts and of how long the areas are.
abbrev pub long_enough : ℕ → ℕ → ℕ → ℕ → ℕ → Bool
long_enough v m beds costs work = leb (m * v) beds && (leb m costs && leb work_size work)

-- The rows lie in the list, the areas have room for them, and each cost fits the 32 bits that it gets there.
pub record Writable (v n : ℕ) (list beds costs : List ℕ) : Type 0 where
  pub patients : v ≤ 32
  pub wanted : n ≤ 64
  pub held : n * 6 ≤ length list
  pub beds_long : n * v ≤ length beds
  pub costs_long : n ≤ length costs
  pub narrow : (i : ℕ) → i < n → (row_in v list i).cost < 4_294_967_296

-- The areas afterwards.
pub record RowsWritten (v n : ℕ) (list beds costs beds_after costs_after : List ℕ) : Type 0 where
  pub each_bed : beds_after ≡ written 0 v (λ row. row.beds) (rows_in v n list) beds
  pub each_cost : costs_after ≡ written 0 1 (λ row. row.cost ∷ []) (rows_in v n list) costs
