-- Rows written one by one: what is left to write is the rest of the whole.
use mathlib.Core.Path.{◌≡◌, sym, ap, ◌∙◌}
use mathlib.Core.List.{append_assoc}
use native.Mathlib.Numerals.{add-one}
use native.Mathlib.Nat.{mul-le-mul_right}
use native.Mathlib.Omega.{arith}
use Prim.Native.Nat.{◌≤◌}
use borrow.Rule.Slice.PartMut.{put_mid}
use lib.ListN.{drop, set, drop_of_length-le, length-set}
use lib.Seq.{sets, sets-eq, length-sets, drop-drop, length-take-le}
use Rattle.std.specs.Prelude.{◌+◌, ◌-◌, ◌*◌, ◌<◌, ◌∷◌}
use Rattle.definitions.specs.Basics.{ℕ, suc, List, [], length, take}
use Rattle.definitions.specs.Outcomes.{written}
use Rattle.definitions.specs.Plans.{Row}
use Rattle.partial_rows.specs.Padding.{unpadded}
use Rattle.packed_rows.specs.declared.Row as Held
use Rattle.packed_rows.specs.Packed.{packed_beds, row_of}
use Rattle.row_list.specs.Rows.{whole_row, row_in, rows_in}
use Rattle.row_list.specs.Laws.{row_long, unpadded_long, unpadded_from}
use Rattle.row_writer.specs.Writing.{RowsWritten}

-- A part of the area that is written over with as many values.
part_written : (area vs : List ℕ) (i n : ℕ) → n ≡ length vs → i + n ≤ length area → put_mid i (i + n - i) area vs ≡ sets area i vs
part_written area vs i n same inside =
    let size : i + n - i ≡ length vs = omega arith in
    rw (size, drop-drop (length vs) i area) (sym (sets-eq vs area i (omega arith) ∙ append_assoc (take i area) vs (drop (i + length vs) area)))

-- The rows from r on.
module _ (v n : ℕ) (list : List ℕ) (width : ℕ) (values : Row → List ℕ) (r : ℕ) where
  pub next_row : (area after : List ℕ) → r < n → after ≡ sets area (r * width) (values (row_in v list r))
      → written (r + 1) width values (drop (r + 1) (rows_in v n list)) after ≡ written r width values (drop r (rows_in v n list)) area
  next_row area after h e = rw (add-one, e) (sym (ap (λ (l : List Row). written r width values l area) (unpadded_from v n list r h)))

  pub all_rows : (area : List ℕ) → n ≤ r → written r width values (drop r (rows_in v n list)) area ≡ area
  all_rows area h =
      let none : drop r (rows_in v n list) ≡ [] = drop_of_length-le (rows_in v n list) {i = r} (omega (arith, unpadded_long v n list)) in
      ap (λ (l : List Row). written r width values l area) none

-- Row r lies in an area that has room for n rows.
pub row_inside : (r n v k : ℕ) → r < n → n * v ≤ k → r * v + v ≤ k
row_inside r n v k h fits = let less : suc r * v ≤ n * v = mul-le-mul_right v h in omega arith

-- The first r rows are written.
pub record Sofar (v n : ℕ) (list beds₀ costs₀ beds costs : List ℕ) (r : ℕ) : Type 0 where
  pub beds_long : length beds ≡ length beds₀
  pub costs_long : length costs ≡ length costs₀
  pub beds_left : written r v (λ row. row.beds) (drop r (rows_in v n list)) beds ≡ written 0 v (λ row. row.beds) (rows_in v n list) beds₀
  pub costs_left : written r 1 (λ row. row.cost ∷ []) (drop r (rows_in v n list)) costs ≡ written 0 1 (λ row. row.cost ∷ []) (rows_in v n list) costs₀

module _ (v n : ℕ) (list beds₀ costs₀ beds costs : List ℕ) (r : ℕ) (sofar : Sofar v n list beds₀ costs₀ beds costs r) where
  pub one_row : (row : Held.Row) (plain back : List ℕ) → r < n → v ≤ 32 → n * v ≤ length beds₀ → row_of row ≡ whole_row list r → plain ≡ packed_beds row.words
      → back ≡ take v plain → Sofar v n list beds₀ costs₀ (put_mid (r * v) (r * v + v - r * v) beds back) (set costs r row.cost) (r + 1)
  one_row row plain back h few fits read all first = record {
    beds_long = ap length after ∙ length-sets beds (r * v) (row_in v list r).beds ∙ sofar.beds_long;
    costs_long = length-set costs r row.cost ∙ sofar.costs_long;
    beds_left = next_row v n list v (λ (w : Row). w.beds) r beds _ h after ∙ sofar.beds_left;
    costs_left = next_row v n list 1 (λ (w : Row). w.cost ∷ []) r costs _ h paid ∙ sofar.costs_left;
  }
    where
      back_is : back ≡ (row_in v list r).beds
      back_is = first ∙ ap (take v) all ∙ ap (λ (w : Row). (unpadded v w).beds) read

      wide : v ≡ length (row_in v list r).beds
      wide = sym (length-take-le v (whole_row list r).beds (omega (arith, row_long list r)))

      after : put_mid (r * v) (r * v + v - r * v) beds back ≡ sets beds (r * v) (row_in v list r).beds
      after = rw back_is (part_written beds (row_in v list r).beds (r * v) v wide (omega (arith, row_inside r n v (length beds) h (omega (arith, sofar.beds_long)))))

      paid : set costs r row.cost ≡ sets costs (r * 1) ((row_in v list r).cost ∷ [])
      paid = let one : r * 1 ≡ r = omega arith in rw one (ap (set costs r) (ap (λ (w : Row). w.cost) read))

  pub rows_done : n ≤ r → RowsWritten v n list beds₀ costs₀ beds costs
  rows_done h = record {
    each_bed = sym (all_rows v n list v (λ (w : Row). w.beds) r beds h) ∙ sofar.beds_left;
    each_cost = sym (all_rows v n list 1 (λ (w : Row). w.cost ∷ []) r costs h) ∙ sofar.costs_left;
  }
