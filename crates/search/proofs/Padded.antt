-- Rows of 32 beds, and the same rows without the padding: inserting one, comparing one with the last, and the sums of two lists.
use mathlib.Core.Path.{◌≡◌, refl, sym, ap, ap₂, ◌∙◌, subst⁻¹}
use mathlib.Core.Logic.{inl, inr}
use Prim.Native.Nat.{◌≤◌}
use native.Mathlib.Omega.{arith}
use Rattle.std.specs.Prelude.{◌-◌, ◌<◌, ◌&&◌, ◌∷◌}
use Rattle.definitions.specs.Basics.{ℕ, zero, suc, Bool, not, eqb, List, [], map, length, take, insert}
use Rattle.definitions.specs.Plans.{Row, bed_of, compare_rows}
use Rattle.lists.specs.Members.{◌∈◌, get_d_in, in_map, in_map_cases}
use Rattle.ranking.specs.First.{First, first_iff}
use Rattle.ranking.specs.Combining.{Combined, Injective}
use Rattle.ranking.specs.Rising.{Rising}
use Rattle.ranking.specs.Mapped.{Keeps, Image, insert_map, rising_back, first_map}
use Rattle.theorems.specs.List.{row_order}
use Rattle.partial_rows.specs.Adding.{add_rows}
use Rattle.partial_rows.specs.Padding.{unpadded, Padded, unpadded_compare, unpadded_add, unpadded_one, padded_add}
use Rattle.packed_rows.specs.declared.Row as Code
use Rattle.packed_rows.specs.Packed.{row_of, is_before}
use Rattle.packed_rows.specs.Packing.{packed_row, pack_padded, pack_unpadded}
use Rattle.row_list.specs.Rows.{whole_row, whole_rows, rows_in, Room, Inserted}
use Rattle.row_list.specs.Laws.{rows_long, rows_at}
use Rattle.search.specs.Walks.{AllPadded, is_past}

take_map : {A B : Type 0} (f : A → B) (n : ℕ) (l : List A) → map f (take n l) ≡ take n (map f l)
take_map f zero l = refl
take_map f (suc n) [] = refl
take_map f (suc n) (x ∷ l) = ap (λ r. f x ∷ r) (take_map f n l)

-- Cut to v patients, padded rows compare as they are.
pub unpadded_keeps : (v : ℕ) → v ≤ 32 → Keeps row_order row_order (unpadded v) (Padded v)
unpadded_keeps v few x y p q = unpadded_compare v x y few p q

-- A row packed for v patients whose beds four bits hold.
module _ (v cost : ℕ) (beds : List ℕ) (few : v ≤ 32) (long : length beds ≡ 32) (x : Code.Row) (packed : row_of x ≡ packed_row v cost beds) where
  pub row_padded : Padded v (row_of x)
  row_padded = subst⁻¹ (Padded v) packed (pack_padded v cost beds few long)

  pub row_unpadded : ((s : ℕ) → s < v → bed_of beds s < 16) → unpadded v (row_of x) ≡ unpadded v (record { cost = cost; beds = beds })
  row_unpadded low = ap (unpadded v) packed ∙ pack_unpadded v cost beds few long low

module _ (v n m : ℕ) (area : List ℕ) (few : v ≤ 32) (padded : AllPadded v n area) where
  module _ (x : Code.Row) (p : Padded v (row_of x)) {after : List ℕ} {r : ℕ} (ins : Inserted n m x area after r) where
    pub inserted_unpadded : Rising row_order (rows_in v n area) → rows_in v r after ≡ take m (insert compare_rows (unpadded v (row_of x)) (rows_in v n area))
    inserted_unpadded rising =
        ap (map (unpadded v)) (ins.rows (rising_back row_order row_order (unpadded v) (Padded v) (unpadded_keeps v few) (whole_rows n area) padded rising))
        ∙ take_map (unpadded v) m (insert compare_rows (row_of x) (whole_rows n area))
        ∙ ap (take m) (sym (insert_map row_order.cmp row_order.cmp (unpadded v) (Padded v) (unpadded_keeps v few) (row_of x) (whole_rows n area) p padded))

    pub inserted_padded : AllPadded v r after
    inserted_padded z k = elim (ins.members z k) [ inl e ↦ subst⁻¹ (Padded v) e p | inr t ↦ padded z t ]

  -- Compared with the last row of a full list.
  pub past_cut : Room n m area → m ≤ n → (cost : ℕ) (beds : List ℕ) → length beds ≡ 32 → ((s : ℕ) → s < v → bed_of beds s < 16) → (x : Code.Row) → row_of x ≡ packed_row v cost beds
      → {r : Bool} → r ≡ (eqb n m && not (is_before (compare_rows (row_of x) (whole_row area (m - 1))))) → r ≡ is_past v n m area cost beds
  unfolding is_past
  past_cut room full cost beds long low x packed asked =
      let last = whole_row area (m - 1) in
      let inside : last ∈ whole_rows n area = subst⁻¹ (λ (z : Row). z ∈ whole_rows n area) (rows_at n area (m - 1) last (omega (arith, room.some)))
      (get_d_in (whole_rows n area) (m - 1) last (omega (arith, room.some, rows_long n area))) in
      asked ∙ ap (λ o. eqb n m && not (is_before o))
      (sym (unpadded_compare v (row_of x) last few (row_padded v cost beds few long x packed) (padded last inside)) ∙ ap (λ (z : Row). compare_rows z (unpadded v last)) (row_unpadded v cost beds few long x packed low))

-- The sums of two lists of padded rows, and of the same rows without the padding.
module _ (v : ℕ) (few : v ≤ 32) (first second : List Row) (p : (x : Row) → x ∈ first → Padded v x) (q : (y : Row) → y ∈ second → Padded v y) where
  same_long : {x y : Row} → x ∈ first → y ∈ second → length x.beds ≡ length y.beds
  same_long {x} {y} i j = (p x i).long ∙ sym (q y j).long

  pub sum_padded : (z : Row) → Combined add_rows (λ x. x ∈ first) (λ y. y ∈ second) z → Padded v z
  sum_padded z c = subst⁻¹ (Padded v) c.is (padded_add v c.left c.right few (p c.left c.in_left) (q c.right c.in_right))

  -- A sum shows its rows, if it does so without the padding.
  pub injective_back : Injective add_rows (λ x. x ∈ map (unpadded v) first) (λ y. y ∈ map (unpadded v) second) → Injective add_rows (λ x. x ∈ first) (λ y. y ∈ second)
  injective_back shows a x b y i j k l e =
      let both = shows (unpadded v a) (unpadded v x) (unpadded v b) (unpadded v y) (in_map (unpadded v) i) (in_map (unpadded v) j) (in_map (unpadded v) k) (in_map (unpadded v) l)
      (sym (unpadded_add v a b (same_long i k)) ∙ ap (unpadded v) e ∙ unpadded_add v x y (same_long j l)) in
      (unpadded_one v a x (p a i) (p x j) both.0, unpadded_one v b y (q b k) (q y l) both.1)

  pub first_unpadded : {m : ℕ} {l : List Row} → First row_order m (Combined add_rows (λ x. x ∈ first) (λ y. y ∈ second)) l
      → First row_order m (Combined add_rows (λ x. x ∈ map (unpadded v) first) (λ y. y ∈ map (unpadded v) second)) (map (unpadded v) l)
  first_unpadded found = first_iff out back (first_map row_order row_order (unpadded v) (Padded v) (unpadded_keeps v few) sum_padded found)
    where
      out : (z : Row) → Image (unpadded v) (Combined add_rows (λ x. x ∈ first) (λ y. y ∈ second)) z → Combined add_rows (λ x. x ∈ map (unpadded v) first) (λ y. y ∈ map (unpadded v) second) z
      out z i =
          let c = i.inside in
          record {
            left = unpadded v c.left;
            right = unpadded v c.right;
            in_left = in_map (unpadded v) c.in_left;
            in_right = in_map (unpadded v) c.in_right;
            is = i.is ∙ ap (unpadded v) c.is ∙ unpadded_add v c.left c.right (same_long c.in_left c.in_right);
          }

      back : (z : Row) → Combined add_rows (λ x. x ∈ map (unpadded v) first) (λ y. y ∈ map (unpadded v) second) z → Image (unpadded v) (Combined add_rows (λ x. x ∈ first) (λ y. y ∈ second)) z
      back z c =
          let (a, i, e) = in_map_cases (unpadded v) first c.in_left in
          let (b, j, f) = in_map_cases (unpadded v) second c.in_right in
          record {
            from = add_rows a b;
            inside = record { left = a; right = b; in_left = i; in_right = j; is = refl };
            is = c.is ∙ ap₂ add_rows (sym e) (sym f) ∙ sym (unpadded_add v a b (same_long i j));
          }
