-- One more sum, and one more row with all of its sums.
use mathlib.Core.Path.{◌≡◌, refl, sym, ap, ap₂, subst, subst⁻¹, ◌∙◌}
use native.Mathlib.Numerals.{add-one}
use native.Mathlib.Omega.{arith}
use Prim.Native.Nat.{◌≤◌}
use lib.Seq.{take-nil}
use Rattle.std.specs.Prelude.{◌+◌, ◌<◌, ◌∷◌, ◌++◌}
use Rattle.definitions.specs.Basics.{ℕ, List, map, length, take, insert, sort, flat_map}
use Rattle.definitions.specs.Plans as Said
use Rattle.definitions.specs.Plans.{compare_rows}
use Rattle.lists.specs.Members.{◌∈◌, get_d_in}
use Rattle.ranking.specs.Sorting.{take_insert}
use Rattle.ranking.specs.Combining.{cross}
use Rattle.ranking.specs.Rising.{Rising, rising_sort, rising_take}
use Rattle.theorems.specs.List.{row_order}
use Rattle.partial_rows.specs.Adding.{add_rows}
use Rattle.packed_rows.specs.declared.Row.{Row}
use Rattle.packed_rows.specs.Packed.{row_of}
use Rattle.row_list.specs.Rows.{whole_row, whole_rows, Inserted}
use Rattle.row_list.specs.Laws.{rows_long, rows_at, rows_none}
use Rattle.row_sums.specs.Sums.{work_part, Asks}
use Rattle.row_sums.specs.Steps.{backwards, Kept, AsksRow, Joined, GivesRow, Found}
use Rattle.row_sums.specs.Areas.{replaced, replaced_long, part_new, part_before, part_long}

-- A row that was read is one of the list's, where the list has stayed as it was.
pub read_in : (n i : ℕ) (area now : List ℕ) (x : Row) → i < n → now ≡ area → row_of x ≡ whole_row now i → row_of x ∈ whole_rows n area
read_in n i area now x h e read =
    let d = whole_row area i in
    subst⁻¹ (λ (z : Said.Row). z ∈ whole_rows n area) (read ∙ ap (λ (p : List ℕ). whole_row p i) e ∙ rows_at n area i d h) (get_d_in (whole_rows n area) i d (omega (arith, rows_long n area)))

none_changed : (work : List ℕ) → Kept work work
none_changed work = record { first = refl; second = refl; long = refl }

module _ (m n : ℕ) (x : Row) (work : List ℕ) where
  pub none_joined : n ≤ m → Joined m n 0 x work work n
  unfolding backwards
  none_joined h = record { count = h; kept = none_changed work; joined = λ sums s. s }

  pub one_joined : (j count r : ℕ) (now new : List ℕ) (y sum : Row) → 1_152 ≤ length now → Joined m n j x work now count → row_of y ≡ whole_row (work_part 1 now) j
      → row_of sum ≡ add_rows (row_of x) (row_of y) → Inserted count m sum (work_part 2 now) new r
      → Joined m n (j + 1) x work (replaced 768 new now) r
  unfolding backwards
  one_joined j count r now new y sum h g read added ins = record {
    count = ins.count;
    kept = record {
      first = part_before 2 now new h long 0 (omega arith) ∙ g.kept.first;
      second = part_before 2 now new h long 1 (omega arith) ∙ g.kept.second;
      long = replaced_long 2 now new h long ∙ g.kept.long;
    };
    joined = λ sums s.
        let l = map f (backwards j (work_part 1 work)) ++ sums in
        let e : row_of sum ∷ l ≡ map f (backwards (j + 1) (work_part 1 work)) ++ sums = rw add-one (ap (λ (z : Said.Row). z ∷ l) sum_is) in
        ap (whole_rows r) (part_new 2 now new h long) ∙ ins.rows (subst⁻¹ (Rising row_order) (g.joined sums s) (rising_take row_order m (sort compare_rows l) (rising_sort row_order l))) ∙ ap (λ (k : List Said.Row). take m (insert compare_rows (row_of sum) k)) (g.joined sums s)
        ∙ take_insert compare_rows m (row_of sum) (sort compare_rows l) ∙ ap (λ (k : List Said.Row). take m (sort compare_rows k)) e;
  }
    where
      f : Said.Row → Said.Row
      f = add_rows (row_of x)

      long : length new ≡ 384
      long = ins.long ∙ part_long 2 now h

      sum_is : row_of sum ≡ f (whole_row (work_part 1 work) j)
      sum_is = added ∙ ap f (read ∙ ap (λ (p : List ℕ). whole_row p j) g.kept.second)

-- With all rows joined, their order does not matter.
pub all_joined : (m n b : ℕ) (x : Row) {work after : List ℕ} {r : ℕ} → Joined m n b x work after r → GivesRow m n b x work after r
all_joined m n b x g = record { count = g.count; kept = g.kept; joined = λ rising. g.joined }

module _ (m b : ℕ) (work : List ℕ) where
  pub none_found : Found m b 0 work work 0
  unfolding backwards flat_map
  none_found = record { count = omega arith; kept = none_changed work; sums = λ rising. rows_none (work_part 2 work) ∙ sym (take-nil m) }

  pub row_found : (i n r : ℕ) (now after : List ℕ) (x : Row) → Found m b i work now n → row_of x ≡ whole_row (work_part 0 now) i → GivesRow m n b x now after r
      → Found m b (i + 1) work after r
  unfolding backwards flat_map
  row_found i n r now after x f read g = record {
    count = g.count;
    kept = record { first = g.kept.first ∙ f.kept.first; second = g.kept.second ∙ f.kept.second; long = g.kept.long ∙ f.kept.long };
    sums = λ rising. g.joined (rw f.kept.second rising) before (f.sums rising) ∙ ap (λ (k : List Said.Row). take m (sort compare_rows k)) more;
  }
    where
      before : List Said.Row
      before = cross add_rows (backwards i (work_part 0 work)) (backwards b (work_part 1 work))

      x_is : row_of x ≡ whole_row (work_part 0 work) i
      x_is = read ∙ ap (λ (p : List ℕ). whole_row p i) f.kept.first

      more : map (add_rows (row_of x)) (backwards b (work_part 1 now)) ++ before ≡ cross add_rows (backwards (i + 1) (work_part 0 work)) (backwards b (work_part 1 work))
      more = rw add-one (ap₂ (λ (z : Said.Row) (p : List ℕ). map (add_rows z) (backwards b p) ++ before) x_is f.kept.second)

  -- What the sums of the next row ask.
  pub next_row : (a i n : ℕ) (now : List ℕ) (x : Row) → Asks m a b work → i < a → Found m b i work now n → row_of x ≡ whole_row (work_part 0 now) i → AsksRow m n b x now
  next_row a i n now x asks h f read = record {
    some = asks.some;
    wanted = asks.wanted;
    held = f.count;
    second = asks.second;
    long = omega (arith, asks.long, f.kept.long);
    fits = λ y k. asks.fits (row_of x) y (read_in a i (work_part 0 work) (work_part 0 now) x h f.kept.first read) (subst (λ (p : List ℕ). y ∈ whole_rows b p) f.kept.second k);
  }
