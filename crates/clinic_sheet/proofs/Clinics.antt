-- What a clinic's own rows cost.
use mathlib.Core.Path.{ap}
use Prim.Native.Nat.{◌≤◌}
use native.Mathlib.Omega.{arith}
use Rattle.definitions.specs.Basics.{ℕ}
use Rattle.definitions.specs.Syntax as Said
use Rattle.definitions.specs.Plans.{Row}
use Rattle.definitions.specs.Sheets.{own_row, sheet_of}
use Rattle.lists.specs.Members.{◌∈◌}
use Rattle.theorems.specs.Accepted.{Accepted, most_total}
use Rattle.theorems.proofs.Accepted.{own_small}
use Rattle.theorems.proofs.SheetRows.{sheet_rows}

-- Each own cost is at most `most_total`.
pub own_costs_small : (r : Said.Region) → Accepted r → (c : ℕ) (z : Row) → z ∈ sheet_of r c → z.cost ≤ most_total
unfolding own_row
own_costs_small r accepted c z k = let (w, i, e) = sheet_rows r c z k in omega (arith, own_small r accepted c w, ap (λ (x : Row). x.cost) e)
