-- Demand 2: the list is the one that the plans, their totals and their order determine.
-- (Theorems that rest on these stand in `proofs/List.antt`.)
use Rattle.std.proofs.Common.{ap, ◌<◌, ◌≡◌, ◌∷◌}
use Rattle.std.specs.Prelude.{◌⊎◌}
use Rattle.definitions.specs.Basics.{ℕ, min, refl, some}
use Rattle.definitions.specs.Basics.{List, [], map, length, keep}
use Rattle.definitions.specs.Syntax.{Region}
use Rattle.definitions.specs.Plans.{Plan, plans, total, allowed, Row, compare_rows, list_of}
use Rattle.lists.specs.Members.{◌∈◌, Distinct}
use Rattle.ranking.specs.Orders.{Order, ℕ-order, list_order, lexicographic, order_by}
use Rattle.ranking.specs.First.{Sorted, FullBefore}

-- ---- the order of plans is a strict total order, and its comparison is the definition's

abbrev pub row_order : Order Row
row_order = order_by (lexicographic ℕ-order list_order) (λ w. (w.cost, w.beds)) (λ v w e i. record { cost = (e i).0; beds = (e i).1 })

pub row_order_lem : row_order.cmp ≡ compare_rows
row_order_lem = refl

-- ---- the enumeration holds every plan, each once

-- One bed for each patient, below the patient's count.
abbrev pub Fits : List ℕ → Plan → Type 0
Fits [] [] = Unit {0}
Fits [] (b ∷ plan) = ⊥
Fits (d ∷ ds) [] = ⊥
Fits (d ∷ ds) (b ∷ plan) = (b < d) × Fits ds plan

-- ---- the rows of allowed plans, each once

-- A plan of the region with its total: what the list may hold.
pub record Allowed (region : Region) (w : Row) : Type 0 where
  pub fits : Fits (map (λ p. p.bed_count) region.patients) w.beds
  pub priced : total region w.beds ≡ some w.cost

-- A row is known by its beds, which determine the total.
pub by_beds : (region : Region) {v w : Row} → Allowed region v → Allowed region w → v.beds ≡ w.beds → v ≡ w
by_beds region {v} {w} a b e = let c : v.cost ≡ w.cost = cc (a.priced, b.priced, ap (total region) e) in λ i. record { cost = c i; beds = e i }

-- ---- the list

-- How many plans are allowed.
abbrev pub allowed_count : Region → ℕ
allowed_count region = length (keep (allowed region) (plans region))

-- Demand 2: the m plans of least total cost, each once, cheapest first, equal costs in order of the beds; fewer only when no further plan is allowed.
pub record RightList (region : Region) (l : List Row) : Type 0 where
  pub in_order : Sorted row_order l
  pub each_once : Distinct (map (λ w. w.beds) l)
  pub only_allowed : (w : Row) → w ∈ l → Allowed region w
  pub others_after : (w : Row) → Allowed region w → (w ∈ l) ⊎ FullBefore row_order region.plans_wanted l w
  pub count : length l ≡ min region.plans_wanted (allowed_count region)

-- No other list has these properties.
abbrev pub OnlyList : Type 0
OnlyList = (region : Region) (l : List Row) → RightList region l → l ≡ list_of region
