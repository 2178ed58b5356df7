-- The place of a new row among rows in order, found by halving.
use mathlib.Core.Path.{◌≡◌}
use mathlib.Core.Bool.{true≢false, false≢true}
use native.Mathlib.Omega.{arith}
use Prim.Native.Nat.{◌≤◌}
use Rattle.std.specs.Prelude.{◌+◌, ◌<◌}
use Rattle.definitions.specs.Basics.{ℕ, Ordering, true, false, List}
use Rattle.definitions.specs.Plans as Said
use Rattle.definitions.specs.Plans.{compare_rows}
use Rattle.ranking.specs.Orders.{View, before, equal, after}
use Rattle.ranking.specs.Rising.{Rising, rising_behind}
use Rattle.ranking.specs.Sorting.{insert_at}
use Rattle.theorems.specs.List.{row_order}
use Rattle.packed_rows.specs.Packed.{row_of, before_or}
use Rattle.packed_rows.specs.declared.Row as Code
use Rattle.row_list.specs.Rows.{whole_row, whole_rows}
use Rattle.row_list.specs.Laws.{rows_long, rows_at}
use Rattle.row_list.specs.Steps.{Place}

-- By the test, a row comes after another or does not.
comes_after : (x y : Said.Row) → before_or true (compare_rows x y) ≡ false → row_order.Lt y x
comes_after x y e = go (row_order.view x y) e
  where
    go : {o : Ordering} → View row_order.Lt x y o → before_or true o ≡ false → row_order.Lt y x
    go (before t) f = absurd (true≢false f)
    go (equal s) f = absurd (true≢false f)
    go (after t) f = t

not_after : (x y : Said.Row) → before_or true (compare_rows x y) ≡ true → row_order.Lt y x → ⊥
not_after x y e h = go (row_order.view x y) e
  where
    go : {o : Ordering} → View row_order.Lt x y o → before_or true o ≡ true → ⊥
    go (before t) f = row_order.irrefl {x = x} (row_order.trans {x = x} {y = y} {z = x} t h)
    go (equal s) f = row_order.irrefl {x = y} (rw s at h)
    go (after t) f = false≢true f

-- Where the halving stands: the rows below come before the new one, and those from the other end on do not.
pub record Between (n : ℕ) (z : Code.Row) (area : List ℕ) (low high : ℕ) : Type 0 where
  pub apart : low ≤ high
  pub within : high ≤ n
  pub ahead : Rising row_order (whole_rows n area) → (i : ℕ) → i < low → row_order.Lt (whole_row area i) (row_of z)
  pub stops : Rising row_order (whole_rows n area) → (i : ℕ) → high ≤ i → i < n → row_order.Lt (whole_row area i) (row_of z) → ⊥

module _ (n : ℕ) (z : Code.Row) (area : List ℕ) where
  abbrev x : Said.Row
  x = row_of z

  pub all_between : Between n z area 0 n
  all_between = record { apart = omega arith; within = omega arith; ahead = λ rising i h. absurd (omega arith); stops = λ rising i h k. absurd (omega arith) }

  -- What comes before x by its place among the rows: an earlier row does too.
  earlier : Rising row_order (whole_rows n area) → (i j : ℕ) → i ≤ j → j < n → row_order.Lt (whole_row area j) x → row_order.Lt (whole_row area i) x
  earlier rising i j h k t =
      let d = x in
      rw (rows_at n area i d (omega arith))
      (rising_behind row_order x (whole_rows n area) i j d rising h (omega (arith, rows_long n area)) (rw (← rows_at n area j d k) t))

  module _ {low high middle : ℕ} (b : Between n z area low high) (h : low ≤ middle) (k : middle < high) where
    pub lower_half : before_or true (compare_rows x (whole_row area middle)) ≡ true → Between n z area low middle
    lower_half e = record {
      apart = h;
      within = omega (arith, b.within);
      ahead = b.ahead;
      stops = λ rising i l g t. not_after x (whole_row area middle) e (earlier rising middle i l g t);
    }

    pub upper_half : before_or true (compare_rows x (whole_row area middle)) ≡ false → Between n z area (middle + 1) high
    upper_half e = record {
      apart = omega arith;
      within = b.within;
      ahead = λ rising i l. earlier rising i middle (omega arith) (omega (arith, b.within)) (comes_after x (whole_row area middle) e);
      stops = b.stops;
    }

  pub place_found : {low high : ℕ} → high ≤ low → Between n z area low high → Place n z area low
  place_found {low} {high} end b = record {
    within = omega (arith, b.within, b.apart);
    here = λ rising.
        insert_at row_order x (whole_rows n area) low x (omega (arith, b.within, b.apart, rows_long n area))
        (λ i h. rw (← rows_at n area i x (omega (arith, b.within, b.apart))) (b.ahead rising i h))
        (λ h t. b.stops rising low (omega arith) (omega (arith, rows_long n area)) (rw (rows_at n area low x (omega (arith, rows_long n area))) t));
  }
