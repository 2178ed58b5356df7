-- A row of a set that is split is a step in the first part and a row of the second part below it.
-- (Theorems that rest on these stand in `proofs/Splitting.antt`.)
use Rattle.std.proofs.Common.{sym, ◌∙◌, true≢false, arith, ◌≡◌}
use Rattle.std.proofs.Math.Path.{ap}
use Rattle.std.proofs.Math.Bool.{not-eq-not}
use Rattle.definitions.specs.Basics.{ℕ, false, Option, some, List}
use Rattle.definitions.specs.Syntax.{Table, Region}
use Rattle.definitions.specs.Plans.{Plan, bed_of, cost_over, Row}
use Rattle.lists.specs.Members.{◌∈◌}
use Rattle.lists.specs.Every.{any_in}
use Rattle.partial_rows.specs.Adding.{add_beds, add_at}
use Rattle.partial_rows.specs.Sets.{Patients}
use Rattle.partial_rows.specs.Rows.{holds, tables_of, BedsOf, RowOf, Branch}
use Rattle.partial_rows.specs.Beds.{outside}

-- Where a table has no member in a set, none of its members is in the set.
not_held : (D : Patients) (t : Table) → holds D t ≡ false → (s : ℕ) → s ∈ t.members → D s ≡ false
not_held D t e s k = not-eq-not.0 (λ q. true≢false (sym (any_in D t.members k q) ∙ e))

-- Beds of a set are not seen by a table that has no member in it.
pub unseen : {region : Region} {D : Patients} {beds : List ℕ} (plan : Plan) → BedsOf region D beds → (t : Table) → holds D t ≡ false
    → (s : ℕ) → s ∈ t.members → bed_of (add_beds plan beds) s ≡ bed_of plan s
unseen {D} {beds} plan b t e s k = omega (arith, add_at plan beds s, outside b s (not_held D t e s k))

-- The cost of a row is determined by its beds.
pub priced_by_beds : (price : List ℕ → Option ℕ) {v w : Row} → price v.beds ≡ some v.cost → price w.beds ≡ some w.cost
    → v.beds ≡ w.beds → v ≡ w
priced_by_beds price {v} {w} p q e = let c : v.cost ≡ w.cost = cc (ap price e) in λ i. record { cost = c i; beds = e i }

pub row_by_beds : {region : Region} {D : Patients} {placed : Plan} {v w : Row} → RowOf region D placed v → RowOf region D placed w → v.beds ≡ w.beds → v ≡ w
row_by_beds {region} {D} {placed} p q e = priced_by_beds (λ b. cost_over (tables_of region D) region (add_beds placed b)) p.priced q.priced e

-- Outside the set that is left, the rows of a branch have the beds of its head.
pub branch_agrees : {region : Region} {E : Patients} {placed : Plan} {u z : Row} → Branch region E placed u z
    → (s : ℕ) → E s ≡ false → bed_of z.beds s ≡ bed_of u.beds s
branch_agrees {u} b s e = rw b.is (omega (arith, add_at u.beds b.rest.beds s, outside b.in_rest.fits s e))
