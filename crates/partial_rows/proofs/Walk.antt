-- The moves of a walk: how the list of the first m rows found so far grows, bed by bed, by the rows of a branch.
use Rattle.std.specs.Prelude.{set, ◌≤◌}
use Rattle.std.proofs.Common.{arith, ◌<◌, ◌≡◌}
use Rattle.std.proofs.Math.Decide.{dec_lt}
use Rattle.definitions.specs.Basics.{ℕ, suc, refl, none, some, List}
use Rattle.definitions.specs.Syntax.{Region, patient_at}
use Rattle.definitions.specs.Plans.{Plan, bed_of, cost_over, Row}
use Rattle.theorems.specs.List.{row_order}
use Rattle.partial_rows.specs.Sets.{Patients, only, Splits}
use Rattle.partial_rows.specs.Rows.{decided_tables, Branch, Position, with_bed}
use Rattle.partial_rows.proofs.Branches.{branch_bed_below, branch_bed, branch_forbidden}
use Rattle.ranking.specs.Growing.{Grown, Ready, ready_iff, ready_then, grown_iff, grown_none}
use Rattle.ranking.proofs.Growing.{grown_then}
use Rattle.partial_rows.specs.Walk.{BranchBelow, BranchAt, below_suc}

-- ---- the beds of one patient, rising

module _ {region : Region} {D F : Patients} (s : ℕ) (split : Splits D (only s) F) {placed : Plan} {u : Row} (position : Position region D placed u)
    {m : ℕ} {old : List Row} (ready : Ready row_order m old (Branch region D placed u)) where
  abbrev Below : ℕ → Row → Type 0
  Below b = BranchBelow region D placed u s b

  abbrev At : ℕ → Row → Type 0
  At b = BranchAt region D placed u s b

  more : {b : ℕ} {mid l : List Row} → Grown row_order m old (Below b) mid → Grown row_order m mid (At b) l → Grown row_order m old (Below (suc b)) l
  more {b} h g = grown_iff (λ z. (below_suc region D placed u s b z).1) (λ z. (below_suc region D placed u s b z).0) (grown_then h g)

  -- No bed yet: those below the first one are forbidden.
  pub walk_none : (first : ℕ) → ((b : ℕ) → b < first → b < (patient_at region s).bed_count → cost_over (decided_tables region (only s) F) region (set placed s b) ≡ none)
      → Grown row_order m old (Below first) old
  walk_none first forbidden =
      grown_none ready (λ z h. branch_forbidden s split position (bed_of z.beds s) (forbidden (bed_of z.beds s) h.1 (branch_bed_below s split position h.0)) z h.0 refl)

  -- One more bed: the branch below it may be walked, and then its rows are found.
  module _ {b c : ℕ} {mid : List Row} (fits : b < (patient_at region s).bed_count)
      (priced : cost_over (decided_tables region (only s) F) region (set placed s b) ≡ some c) (found : Grown row_order m old (Below b) mid) where
    pub ready_bed : Ready row_order m mid (Branch region F (set placed s b) (with_bed u s b c))
    ready_bed = ready_iff (λ z. (branch_bed s split position b c fits priced z).1)
        (ready_then (λ z h k. omega (arith, h.1, k.1)) (ready_iff (λ z k. k.0) ready) found)

    pub walk_bed : {l : List Row} → Grown row_order m mid (Branch region F (set placed s b) (with_bed u s b c)) l → Grown row_order m old (Below (suc b)) l
    walk_bed g = more found (grown_iff (λ z. (branch_bed s split position b c fits priced z).1) (λ z. (branch_bed s split position b c fits priced z).0) g)

  -- A bed is passed over where a table that it decides forbids it.
  pub walk_skip : {b : ℕ} {mid : List Row} → cost_over (decided_tables region (only s) F) region (set placed s b) ≡ none
      → Grown row_order m old (Below b) mid → Grown row_order m old (Below (suc b)) mid
  walk_skip {b} {mid} forbidden found = more found (grown_none here (λ z h. branch_forbidden s split position b forbidden z h.0 h.1))
    where
      here : Ready row_order m mid (At b)
      here = ready_then (λ z h k. omega (arith, h.1, k.1)) (ready_iff (λ z k. k.0) ready) found

  -- All beds: those from the end on are forbidden.
  pub walk_all : {l : List Row} (end : ℕ) → ((b : ℕ) → end ≤ b → b < (patient_at region s).bed_count → cost_over (decided_tables region (only s) F) region (set placed s b) ≡ none)
      → Grown row_order m old (Below end) l → Grown row_order m old (Branch region D placed u) l
  walk_all end forbidden h = grown_iff (λ z k. k.0) (λ z k. (k, inside z k)) h
    where
      inside : (z : Row) → Branch region D placed u z → bed_of z.beds s < end
      inside z k = elim (dec_lt (bed_of z.beds s) end) [
        | yes l ↦ l
        | no l ↦ absurd (branch_forbidden s split position (bed_of z.beds s) (forbidden (bed_of z.beds s) (omega arith) (branch_bed_below s split position k)) z k refl)
      ]
