-- The two ends: the rows of the whole region are what its list may hold, and of no patients there is one row.
-- (Theorems that rest on these stand in `proofs/Whole.antt`.)
use Rattle.std.proofs.Common.{sym, ◌∙◌, true≢false, ◌<◌, ◌≡◌}
use Rattle.std.specs.Prelude.{◌↔◌}
use Rattle.definitions.specs.Basics.{ℕ, refl, true, false, [], length}
use Rattle.definitions.specs.Syntax.{Table, Region}
use Rattle.definitions.specs.Plans.{Plan, cost_over, constraints, Row}
use Rattle.lists.specs.Members.{◌∈◌}
use Rattle.lists.specs.Every.{every_all, any_in, any_false}
use Rattle.lists.specs.Keep.{keep_all, keep_none}
use Rattle.theorems.specs.Accepted.{Accepted, constraint_held, constraint_known}
use Rattle.partial_rows.specs.Sets.{Patients}
use Rattle.partial_rows.specs.Rows.{holds, tables_of, empty_row, RowOf}
use Rattle.partial_rows.specs.Beds.{beds_same, empty_beds}
use Rattle.partial_rows.specs.Splitting.{row_by_beds}

-- ---- the whole region

-- A set of all patients has a member of every constraint of an accepted region.
pub tables_held_lem : (region : Region) (D : Patients) → Accepted region → ((s : ℕ) → s < length region.patients → D s ≡ true)
    → (t : Table) → t ∈ constraints region → holds D t ≡ true
tables_held_lem region D accepted all t k = let (s, i) = constraint_held region accepted t k in any_in D t.members i (all s (constraint_known region accepted t k s i))

module _ (region : Region) (D : Patients) (all : (s : ℕ) → s < length region.patients → D s ≡ true)
    (held : (t : Table) → t ∈ constraints region → holds D t ≡ true) where
  pub tables_all : tables_of region D ≡ constraints region
  unfolding tables_of
  tables_all = keep_all (holds D) (constraints region) (every_all (holds D) (constraints region) held)

-- ---- no patients

module _ (region : Region) (placed : Plan) (E : Patients) (gone : (s : ℕ) → E s ≡ false) where
  tables_none : tables_of region E ≡ []
  unfolding tables_of
  tables_none = keep_none (holds E) (constraints region) (λ t k. (any_false E t.members).1 (λ s i. gone s))

  empty_row_lem : RowOf region E placed (empty_row region)
  unfolding cost_over
  empty_row_lem = record { fits = empty_beds gone; priced = rw tables_none refl }

  -- The one row costs 0 and has only beds 0.
  pub none_left : (w : Row) → RowOf region E placed w ↔ (w ≡ empty_row region)
  none_left w = (
    λ r. row_by_beds r empty_row_lem (beds_same r.fits empty_row_lem.fits (λ s h e. absurd (true≢false (sym e ∙ gone s)))),
    λ e. rw e empty_row_lem,
  )
