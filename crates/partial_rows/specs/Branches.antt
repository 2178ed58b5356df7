-- The branches of a walk: where they begin and end, what stands below one more bed, and what none of their rows comes before.
-- (Theorems that rest on these stand in `proofs/Branches.antt`.)
use Rattle.std.proofs.Common.{sym, ap, ◌∙◌, inl, inr, zero-add, add-zero, arith, eq-eqb, length-set, get_or-set_other, ◌+◌, ◌<◌, ◌≡◌}
use Rattle.std.specs.Prelude.{◌↔◌, set, ◌≤◌}
use Rattle.std.proofs.lemmas.Bool.{eqb-false}
use Rattle.definitions.specs.Basics.{ℕ, refl, true, false, length}
use Rattle.definitions.specs.Syntax.{Region}
use Rattle.definitions.specs.Plans.{Plan, Row}
use Rattle.theorems.specs.List.{row_order}
use Rattle.partial_rows.specs.Adding.{add_beds, add_rows, add_zeros, add_zeros_right, add_one_bed, add_not_before}
use Rattle.partial_rows.specs.Sets.{Patients, only, Splits, swap_parts, in_first_lem, not_both}
use Rattle.partial_rows.specs.Rows.{no_beds, empty_row, RowOf, Branch, Position, with_bed, LowerBound}
use Rattle.partial_rows.specs.Whole.{none_left}

module _ (region : Region) (placed : Plan) where
  -- Below the row of nobody are the rows of the set.
  pub branch_start : (D : Patients) (z : Row) → Branch region D placed (empty_row region) z ↔ RowOf region D placed z
  branch_start D z = (λ b. rw (b.is, unchanged b.rest b.in_rest) b.in_rest, λ r. record { rest = z; in_rest = r; is = sym (unchanged z r) })
    where
      unchanged : (w : Row) → RowOf region D placed w → add_rows (empty_row region) w ≡ w
      unchanged w r = λ i. record { cost = zero-add w.cost i; beds = add_zeros (length region.patients) w.beds (omega (arith, r.fits.long)) i }

  -- Where nobody is left, the branch is its head.
  pub branch_end : (E : Patients) (u : Row) → ((s : ℕ) → E s ≡ false) → length u.beds ≡ length region.patients
      → (z : Row) → Branch region E placed u z ↔ (z ≡ u)
  branch_end E u gone long z = (
    λ b. b.is ∙ ap (add_rows u) ((none_left region placed E gone b.rest).0 b.in_rest) ∙ unchanged,
    λ e. record { rest = empty_row region; in_rest = (none_left region placed E gone (empty_row region)).1 refl; is = e ∙ sym unchanged },
  )
    where
      unchanged : add_rows u (empty_row region) ≡ u
      unchanged = λ i. record { cost = add-zero u.cost i; beds = add_zeros_right u.beds (length region.patients) (omega arith) i }

  -- Every row of a branch costs at least the cost so far and a lower bound of the rest, and its beds are not before those so far.
  pub branch_not_before : (E : Patients) (u : Row) (n : ℕ) → LowerBound region E placed n → (z : Row) → Branch region E placed u z
      → row_order.Lt z (record { cost = u.cost + n; beds = u.beds }) → ⊥
  branch_not_before E u n bound z b = rw b.is (go (bound b.rest b.in_rest))
    where
      go : n ≤ b.rest.cost → row_order.Lt (add_rows u b.rest) (record { cost = u.cost + n; beds = u.beds }) → ⊥
      go le (inl h) = omega arith
      go le (inr h) = add_not_before u.beds b.rest.beds h.1

-- ---- one patient

module _ {region : Region} {D F : Patients} (s : ℕ) (split : Splits D (only s) F) {placed : Plan} {u : Row} (position : Position region D placed u) where
  pub mine : D s ≡ true
  mine = in_first_lem split s (eq-eqb s s refl)

  pub known : s < length region.patients
  known = position.known s mine

  -- A bed below the count, where no table that it decides forbids it, is a step.
  pub placed_next : (b : ℕ) → add_beds placed (set (no_beds region) s b) ≡ set placed s b
  placed_next b = add_one_bed placed (length region.patients) s b position.room known (position.unplaced s mine)

  -- The position below a bed.
  pub position_bed : (b c : ℕ) → Position region F (set placed s b) (with_bed u s b c)
  position_bed b c = record {
    known = λ r k. position.known r (left r k);
    room = omega (arith, position.room, length-set placed s b);
    long = length-set u.beds s b ∙ position.long;
    unplaced = λ r k. get_or-set_other placed s r b 0 (differs r k) ∙ position.unplaced r (left r k);
    unplaced_in_head = λ r k. get_or-set_other u.beds s r b 0 (differs r k) ∙ position.unplaced_in_head r (left r k);
  }
    where
      left : (r : ℕ) → F r ≡ true → D r ≡ true
      left r k = in_first_lem (swap_parts split) r k

      differs : (r : ℕ) → F r ≡ true → r ≡ s → ⊥
      differs r k q = eqb-false s r (not_both (swap_parts split) r k) (sym q)
