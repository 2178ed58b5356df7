-- A sum that costs more than the last row of a full list need not be made: it would not enter.
use mathlib.Core.Path.{◌≡◌, refl, sym, ap, ◌∙◌}
use mathlib.Core.Logic.{inl}
use native.Mathlib.Numerals.{add-one}
use native.Mathlib.Omega.{arith}
use native.Mathlib.Decide.{dec_le}
use borrow.Author.Tests.{eqb-true, ltb-true}
use Prim.Native.Nat.{◌≤◌}
use lib.ListN.{length-take}
use lib.Seq.{get_or-take}
use Rattle.std.specs.Prelude.{◌+◌, ◌-◌, ◌<◌, ◌∷◌, ◌++◌}
use Rattle.definitions.specs.Basics.{ℕ, zero, suc, true, eqb, List, map}
use Rattle.definitions.specs.Basics.{length, get_or, take, sort}
use Rattle.definitions.specs.Plans as Said
use Rattle.definitions.specs.Plans.{compare_rows}
use Rattle.lists.specs.Tests.{both}
use Rattle.lists.specs.Members.{◌∈◌, get_d_in}
use Rattle.ranking.specs.Rising.{rising_at, rising_sort, insert_behind}
use Rattle.theorems.specs.List.{row_order}
use Rattle.partial_rows.specs.Adding.{add_rows}
use Rattle.packed_rows.specs.declared.Row.{Row}
use Rattle.packed_rows.specs.Packed.{row_of, Fit}
use Rattle.row_list.specs.Rows.{whole_row, whole_rows}
use Rattle.row_list.specs.Laws.{rows_long, rows_at}
use Rattle.row_sums.specs.Sums.{work_part}
use Rattle.row_sums.specs.Steps.{backwards, exceeds_last, Joined, InOrder, GivesRow}

-- The first m of the sorted rows, where the last of them costs less than one more row: that row makes no difference.
past_last : (m : ℕ) (z d : Said.Row) (done l : List Said.Row) → 0 < m → l ≡ take m (sort compare_rows done) → length l ≡ m
    → (get_or l (m - 1) d).cost < z.cost → take m (sort compare_rows done) ≡ take m (sort compare_rows (z ∷ done))
past_last zero z d done l some e full h = absurd (omega arith)
past_last (suc k) z d done l some e full h =
    let s = sort compare_rows done in
    let held : k < length s = omega (arith, full, ap length e, length-take (suc k) s) in
    let last : get_or l k d ≡ get_or s k d = ap (λ (w : List Said.Row). get_or w k d) e ∙ get_or-take (suc k) s k d (omega arith) in
    let one : suc k - 1 ≡ k = omega arith in
    let less : (get_or s k d).cost < z.cost = rw (one, last) at h in
    sym (insert_behind row_order k z s d (rising_sort row_order done) held (inl less))

-- The list is full, and its last row costs less than this.
record ExceedsLast (n m cost : ℕ) (area : List ℕ) : Type 0 where
  full : n ≡ m
  last : (whole_row area (m - 1)).cost < cost

exceeds_last_lem : (n m cost : ℕ) (area : List ℕ) → exceeds_last n m cost area ≡ true → ExceedsLast n m cost area
exceeds_last_lem n m cost area e =
    let parts = both (eqb n m) e in
    record { full = eqb-true n m parts.0; last = ltb-true (whole_row area (m - 1)).cost cost parts.1 }

module _ (m n : ℕ) (x : Row) (work : List ℕ) where
  one_skipped : (j count cost : ℕ) (now : List ℕ) → 0 < m → Joined m n j x work now count → cost ≡ (whole_row (work_part 1 now) j).cost
      → ExceedsLast count m (x.cost + cost) (work_part 2 now) → Joined m n (j + 1) x work now count
  unfolding backwards
  one_skipped j count cost now some g is exceeds = record {
    count = g.count;
    kept = g.kept;
    joined = λ sums s.
        let f = add_rows (row_of x) in
        let done = map f (backwards j (work_part 1 work)) ++ sums in
        let z = f (whole_row (work_part 1 work) j) in
        let l = whole_rows count (work_part 2 now) in
        let same : cost ≡ (whole_row (work_part 1 work) j).cost = is ∙ ap (λ (p : List ℕ). (whole_row p j).cost) g.kept.second in
        let last : whole_row (work_part 2 now) (m - 1) ≡ get_or l (m - 1) z = rows_at count (work_part 2 now) (m - 1) z (omega (arith, exceeds.full)) in
        let less : (get_or l (m - 1) z).cost < z.cost = rw (← last, ← same) exceeds.last in
        let more : take m (sort compare_rows (z ∷ done)) ≡ take m (sort compare_rows (map f (backwards (j + 1) (work_part 1 work)) ++ sums)) = rw add-one refl in
        g.joined sums s ∙ past_last m z z done l some (g.joined sums s) (rows_long count (work_part 2 now) ∙ exceeds.full) less ∙ more;
  }

  -- The rows from j on are in order, so none of their sums enters.
  pub rest_skipped : (j b count cost : ℕ) (now : List ℕ) → 0 < m → j < b → Joined m n j x work now count → cost ≡ (whole_row (work_part 1 now) j).cost
      → exceeds_last count m (x.cost + cost) (work_part 2 now) ≡ true → GivesRow m n b x work now count
  rest_skipped j b count cost now some more g is exceeds = record { count = g.count; kept = g.kept; joined = λ rising. (all rising (b - j) j (omega arith) (omega arith) g).joined }
    where
      -- A later row costs no less.
      later : InOrder b work → (k : ℕ) → j ≤ k → k < b → cost ≤ (whole_row (work_part 1 now) k).cost
      later rising k h l = elim (dec_le cost (whole_row (work_part 1 now) k).cost) [ yes e ↦ e | no e ↦ absurd (never (omega arith)) ]
        where
          d : Said.Row
          d = whole_row (work_part 1 work) k

          held : (i : ℕ) → i < b → whole_row (work_part 1 now) i ≡ get_or (whole_rows b (work_part 1 work)) i d
          held i t = ap (λ (p : List ℕ). whole_row p i) g.kept.second ∙ rows_at b (work_part 1 work) i d t

          never : (whole_row (work_part 1 now) k).cost < cost → ⊥
          never less =
              let below : (whole_row (work_part 1 now) k).cost < (whole_row (work_part 1 now) j).cost = rw (← is) less in
              let apart : j ≡ k → ⊥ = λ same. (let z : (whole_row (work_part 1 now) j).cost ≡ (whole_row (work_part 1 now) k).cost = ap (λ i. (whole_row (work_part 1 now) i).cost) same in omega arith) in
              rising_at row_order (whole_rows b (work_part 1 work)) j k d rising (omega (arith, apart)) (omega (arith, rows_long b (work_part 1 work)))
              (rw (← held k l, ← held j more) (inl below))

      all : InOrder b work → (d k : ℕ) → k + d ≡ b → j ≤ k → Joined m n k x work now count → Joined m n b x work now count
      all rising zero k e h here = (let same : k ≡ b = omega arith in rw same at here)
      all rising (suc d) k e h here =
          let first = exceeds_last_lem count m (x.cost + cost) (work_part 2 now) exceeds in
          let next = later rising k h (omega arith) in
          all rising d (k + 1) (omega arith) (omega arith)
          (one_skipped k count (whole_row (work_part 1 now) k).cost now some here refl (record { full = first.full; last = omega (arith, first.last, next) }))

-- The cost of a sum fits.
pub cost_fits : (n j cost : ℕ) (x : Row) (area now : List ℕ) → j < n → ((y : Said.Row) → y ∈ whole_rows n area → Fit (row_of x) y) → now ≡ area
    → cost ≡ (whole_row now j).cost → x.cost + cost < 18_446_744_073_709_551_616
cost_fits n j cost x area now h fits e is =
    let d = whole_row area j in
    let same : cost ≡ (get_or (whole_rows n area) j d).cost = is ∙ ap (λ (p : List ℕ). (whole_row p j).cost) e ∙ ap (λ (r : Said.Row). r.cost) (rows_at n area j d h) in
    omega (arith, same, (fits _ (get_d_in (whole_rows n area) j d (omega (arith, rows_long n area)))).cost)
