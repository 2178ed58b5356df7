-- When a branch is cut: the list is full, and the branch's best row is not before its last.
use mathlib.Core.Path.{◌≡◌, sym, ap}
use borrow.Author.Tests.{eq-eqb, ne_eqb}
use native.Mathlib.Omega.{arith}
use Prim.Native.Nat.{◌≤◌}
use Rattle.std.specs.Prelude.{◌-◌, ◌<◌}
use Rattle.definitions.specs.Basics.{ℕ, Ordering, ordering_lt, ordering_gt, compare, true, false, not, List, take}
use Rattle.definitions.specs.Plans.{then_by, compare_beds}
use Rattle.packed_rows.specs.Packed.{is_before}
use Rattle.packed_rows.specs.Numbers.{less, more}
use Rattle.row_list.specs.Rows.{row_in, Room}
use Rattle.search.specs.Walks.{is_past}

module _ (v n m : ℕ) (area : List ℕ) (cost : ℕ) (beds : List ℕ) where
  -- A list with room cuts nothing.
  pub not_full : n < m → false ≡ is_past v n m area cost beds
  unfolding is_past
  not_full h = rw (ne_eqb n m (λ e. omega arith))

  module _ (room : Room n m area) (full : m ≤ n) where
    -- The costs decide where they differ.
    by_cost : (o : Ordering) → compare cost (row_in v area (m - 1)).cost ≡ o → is_past v n m area cost beds ≡ not (is_before (then_by o (compare_beds (take v beds) (row_in v area (m - 1)).beds)))
    unfolding is_past
    by_cost o e = rw (eq-eqb n m (omega (arith, room.held))) (ap (λ c. not (is_before (then_by c (compare_beds (take v beds) (row_in v area (m - 1)).beds)))) e)

    pub cheaper : cost < (row_in v area (m - 1)).cost → false ≡ is_past v n m area cost beds
    cheaper h = sym (by_cost ordering_lt (less cost (row_in v area (m - 1)).cost h))

    pub costlier : (row_in v area (m - 1)).cost < cost → true ≡ is_past v n m area cost beds
    costlier h = sym (by_cost ordering_gt (more cost (row_in v area (m - 1)).cost h))
