-- The moves of a walk: how the list of the first m rows found so far grows, bed by bed, by the rows of a branch.
-- (Theorems that rest on these stand in `proofs/Walk.antt`.)
use Rattle.std.specs.Prelude.{◌⊎◌, ◌↔◌, ◌≤◌}
use Rattle.std.proofs.Common.{inl, inr, eq-or-lt_of_le, arith, ◌+◌, ◌<◌, ◌≡◌}
use Rattle.std.proofs.lemmas.List.{length-replicate}
use Rattle.definitions.specs.Basics.{ℕ, suc, refl, true, false, List, [], length, get_or, take, insert}
use Rattle.definitions.specs.Syntax.{Region}
use Rattle.definitions.specs.Plans.{Plan, bed_of, Row, compare_rows}
use Rattle.ranking.specs.First.{First, first_iff}
use Rattle.theorems.specs.List.{row_order}
use Rattle.partial_rows.specs.Sets.{Patients}
use Rattle.partial_rows.specs.Rows.{empty_row, RowOf, Branch, Position, LowerBound}
use Rattle.partial_rows.specs.Beds.{no_bed}
use Rattle.partial_rows.specs.Branches.{branch_start, branch_end, branch_not_before}
use Rattle.ranking.specs.Growing.{Grown, Ready, grown_from_nil}
use Rattle.ranking.proofs.Growing.{grown_one, grown_cut}

-- ---- the whole walk

module _ (region : Region) (D : Patients) (placed : Plan) where
  -- A walk begins where the set holds patients without beds.
  pub position_start : ((s : ℕ) → D s ≡ true → s < length region.patients) → length region.patients ≤ length placed
      → ((s : ℕ) → D s ≡ true → bed_of placed s ≡ 0) → Position region D placed (empty_row region)
  position_start known room unplaced =
      record { known = known; room = room; long = length-replicate _ 0; unplaced = unplaced; unplaced_in_head = λ s h. no_bed region s }

  -- From the row of nobody and the empty list, it finds the first rows of the set.
  pub walk_finds : {m : ℕ} {l : List Row} → Grown row_order m [] (Branch region D placed (empty_row region)) l → First row_order m (RowOf region D placed) l
  walk_finds h = first_iff (λ z. (branch_start region placed D z).0) (λ z. (branch_start region placed D z).1) (grown_from_nil h)

-- ---- a branch

module _ (region : Region) (E : Patients) (placed : Plan) (u : Row) {m : ℕ} {old : List Row} (ready : Ready row_order m old (Branch region E placed u)) where
  -- Nobody is left: the head of the branch is inserted.
  pub walk_leaf : ((s : ℕ) → E s ≡ false) → length u.beds ≡ length region.patients
      → Grown row_order m old (Branch region E placed u) (take m (insert compare_rows u old))
  walk_leaf gone long = grown_one u ((branch_end region placed E u gone long u).1 refl) (λ z. (branch_end region placed E u gone long z).0) ready

  -- A cut: the list is full, and the cost so far with a lower bound, and the beds so far, are not before its last row.
  pub walk_cut : (n bound : ℕ) (d : Row) → m ≡ suc n → length old ≡ m → LowerBound region E placed bound
      → (row_order.Lt (record { cost = u.cost + bound; beds = u.beds }) (get_or old n d) → ⊥) → Grown row_order m old (Branch region E placed u) old
  walk_cut n bound d e full lower late = grown_cut n d _ e full (branch_not_before region placed E u bound lower) late ready

-- ---- the beds of one patient, rising

-- The rows of the branch whose bed for s is below b; whose bed for s is b.
module _ (region : Region) (D : Patients) (placed : Plan) (u : Row) (s : ℕ) where
  abbrev pub BranchBelow : ℕ → Row → Type 0
  BranchBelow b z = Branch region D placed u z × (bed_of z.beds s < b)

  abbrev pub BranchAt : ℕ → Row → Type 0
  BranchAt b z = Branch region D placed u z × (bed_of z.beds s ≡ b)

  pub below_suc : (b : ℕ) (z : Row) → BranchBelow (suc b) z ↔ (BranchBelow b z ⊎ BranchAt b z)
  below_suc b z = (
    λ (r, h). let le : bed_of z.beds s ≤ b = omega arith in elim (eq-or-lt_of_le le) [ inl e ↦ inr (r, e) | inr k ↦ inl (r, k) ],
    λ p. elim p [ inl q ↦ (q.0, omega (arith, q.1)) | inr q ↦ (q.0, omega (arith, q.1)) ],
  )
