-- The two ends: the rows of the whole region are what its list may hold, and of no patients there is one row.
use Rattle.std.proofs.Common.{sym, ◌∙◌, arith, ◌<◌, ◌≡◌}
use Rattle.std.specs.Prelude.{◌↔◌}
use Rattle.definitions.specs.Basics.{ℕ, true, List, length}
use Rattle.definitions.specs.Syntax.{Table, Region}
use Rattle.definitions.specs.Plans.{cost_over, constraints, total, Row, list_of}
use Rattle.lists.specs.Members.{◌∈◌}
use Rattle.ranking.specs.First.{First, first_iff}
use Rattle.ranking.proofs.First.{first_unique}
use Rattle.theorems.specs.List.{row_order, Allowed}
use Rattle.theorems.proofs.List.{list_first}
use Rattle.partial_rows.specs.Adding.{add_beds, add_zeros}
use Rattle.partial_rows.specs.Sets.{Patients}
use Rattle.partial_rows.specs.Rows.{holds, tables_of, no_beds, BedsOf, RowOf}
use Rattle.partial_rows.proofs.Beds.{fits_beds}
use Rattle.partial_rows.specs.Whole.{tables_all}

-- ---- the whole region

module _ (region : Region) (D : Patients) (all : (s : ℕ) → s < length region.patients → D s ≡ true)
    (held : (t : Table) → t ∈ constraints region → holds D t ≡ true) where
  whole_cost : (w : Row) → BedsOf region D w.beds → cost_over (tables_of region D) region (add_beds (no_beds region) w.beds) ≡ total region w.beds
  unfolding total
  whole_cost w b = rw (tables_all region D all held, add_zeros (length region.patients) w.beds (omega (arith, b.long)))

  -- With nobody placed the rows are those that the list may hold.
  pub whole_rows_lem : (w : Row) → RowOf region D (no_beds region) w ↔ Allowed region w
  whole_rows_lem w = (
    λ r. record { fits = (fits_beds region D w.beds all).0 r.fits; priced = sym (whole_cost w r.fits) ∙ r.priced },
    λ a. let b = (fits_beds region D w.beds all).1 a.fits in record { fits = b; priced = whole_cost w b ∙ a.priced },
  )

  -- So the first of them are the list.
  pub whole_list : {l : List Row} → First row_order region.plans_wanted (RowOf region D (no_beds region)) l → l ≡ list_of region
  whole_list h = first_unique (first_iff (λ w. (whole_rows_lem w).0) (λ w. (whole_rows_lem w).1) h) (list_first region)
