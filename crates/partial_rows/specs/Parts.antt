-- Two parts that no table joins: the rows of both together are the sums of a row of each, so the first of them come from the first of each.
-- (Theorems that rest on these stand in `proofs/Parts.antt`.)
use Rattle.std.proofs.Common.{sym, ◌∙◌, inl, inr, arith, ◌+◌, ◌≡◌}
use Rattle.std.proofs.Math.Path.{ap}
use Rattle.definitions.specs.Basics.{ℕ, true, false, length}
use Rattle.definitions.specs.Syntax.{Table, Region}
use Rattle.definitions.specs.Plans.{Plan, bed_of, constraints, Row}
use Rattle.lists.specs.Members.{◌∈◌}
use Rattle.ranking.specs.Combining.{Injective, Rising}
use Rattle.theorems.specs.List.{row_order}
use Rattle.partial_rows.specs.Adding.{add_rows, add_at, add_rising, add_rising_right}
use Rattle.partial_rows.specs.Sets.{Patients, Splits, swap_parts, not_both}
use Rattle.partial_rows.specs.Rows.{holds, RowOf}
use Rattle.partial_rows.specs.Beds.{outside, beds_same}
use Rattle.partial_rows.specs.Splitting.{row_by_beds}

-- No table has a member in both sets.
abbrev pub Apart : Region → Patients → Patients → Type 0
Apart region E F = (t : Table) → t ∈ constraints region → holds E t ≡ true → holds F t ≡ false

module _ (region : Region) {D E F : Patients} (split : Splits D E F) (apart : Apart region E F) (placed : Plan) where
  -- A larger part makes a larger sum.
  same_length : {G : Patients} {v w : Row} → RowOf region G placed v → RowOf region G placed w → length v.beds ≡ length w.beds
  same_length p q = p.fits.long ∙ sym q.fits.long

  pub parts_rising : Rising row_order row_order row_order add_rows (RowOf region E placed) (RowOf region F placed)
  parts_rising = record { in_left = in_left_lem; in_right = in_right_lem }
    where
      in_left_lem : (v x w : Row) → RowOf region E placed v → RowOf region E placed x → RowOf region F placed w → row_order.Lt v x → row_order.Lt (add_rows v w) (add_rows x w)
      in_left_lem v x w p s q (inl t) = inl (omega arith)
      in_left_lem v x w p s q (inr t) = inr (omega (arith, t.0), add_rising v.beds x.beds w.beds (same_length p s) t.1)

      in_right_lem : (v w y : Row) → RowOf region E placed v → RowOf region F placed w → RowOf region F placed y → row_order.Lt w y → row_order.Lt (add_rows v w) (add_rows v y)
      in_right_lem v w y p q s (inl t) = inl (omega arith)
      in_right_lem v w y p q s (inr t) = inr (omega (arith, t.0), add_rising_right v.beds w.beds y.beds (same_length q s) t.1)

  -- The parts can be read off their sum: where one has beds, the other has 0.
  pub parts_injective : Injective add_rows (RowOf region E placed) (RowOf region F placed)
  parts_injective v x w y p s q t e = (
    row_by_beds p s (beds_same p.fits s.fits (λ r h k. let o = not_both split r k in
        omega (arith, at r, outside q.fits r o, outside t.fits r o))),
    row_by_beds q t (beds_same q.fits t.fits (λ r h k. let o = not_both (swap_parts split) r k in
        omega (arith, at r, outside p.fits r o, outside s.fits r o))),
  )
    where
      at : (r : ℕ) → bed_of v.beds r + bed_of w.beds r ≡ bed_of x.beds r + bed_of y.beds r
      at r = sym (add_at v.beds w.beds r) ∙ ap (λ (z : Row). bed_of z.beds r) e ∙ add_at x.beds y.beds r
