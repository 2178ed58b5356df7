-- What the rows of a set depend on: its context, the beds placed for members of its tables.
use Rattle.std.proofs.Common.{◌∙◌, arith, ◌≡◌}
use Rattle.definitions.specs.Basics.{ℕ, true}
use Rattle.definitions.specs.Syntax.{Table, Region}
use Rattle.definitions.specs.Plans.{Plan, bed_of, constraints, Row}
use Rattle.lists.specs.Members.{◌∈◌}
use Rattle.lists.specs.Keep.{keep_out}
use Rattle.partial_rows.specs.Sets.{Patients}
use Rattle.partial_rows.specs.Adding.{add_beds, add_at}
use Rattle.partial_rows.specs.Rows.{holds, tables_of, RowOf}
use Rattle.partial_rows.specs.Costs.{cost_same}

-- Where these agree, the rows are the same.
pub row_context : {region : Region} {D : Patients} {placed other : Plan} {w : Row}
    → ((t : Table) → t ∈ constraints region → holds D t ≡ true → (s : ℕ) → s ∈ t.members → bed_of placed s ≡ bed_of other s)
    → RowOf region D placed w → RowOf region D other w
unfolding tables_of
row_context {region} {D} {placed} {other} {w} agree r = record {
  fits = r.fits;
  priced = cost_same region (add_beds other w.beds) (add_beds placed w.beds) (tables_of region D) (λ t k s i.
      let (kept, held) = keep_out (holds D) (constraints region) k in
      omega (arith, add_at placed w.beds s, add_at other w.beds s, agree t kept held s i)) ∙ r.priced;
}
