-- A plan of the joined region costs what its parts cost in the two regions.
use Rattle.std.specs.Prelude.{◌≡◌}
use Rattle.std.proofs.Math.Path.{sym, ap, ap₂}
use Rattle.std.proofs.Common.{◌∙◌, zero-add, arith, get_or-append-add, ◌+◌, ◌<◌, ◌++◌}
use Rattle.std.proofs.lemmas.Simd.{map-map}
use Rattle.std.proofs.Math.ListN.{get_or-append}
use Rattle.definitions.specs.Basics.{ℕ, Option, none, map, length, get_or}
use Rattle.definitions.specs.Syntax.{Patient, Table, Region, patient_numbers}
use Rattle.definitions.specs.Plans.{Plan, bed_of, place, entry_for, cost_over, total}
use Rattle.definitions.specs.Joining.{table_after, joined_region}
use Rattle.lists.specs.Members.{◌∈◌}
use Rattle.lists.specs.Maps.{map_same}
use Rattle.lists.specs.Below.{below_out}
use Rattle.theorems.specs.Sums.{plus, plus_pairs, sum_over, sum_append, sum_map}
use Rattle.theorems.specs.Fixed.{keeping, fixed_cost, total_parts}
use Rattle.theorems.specs.Accepted.{Accepted, table_right}
use Rattle.joining.specs.Shifting.{shifted}
use Rattle.joining.specs.Joined.{Stands, joined_tables_lem, joined_numbers, first_stands, second_stands}

-- What a region that stands in another costs there, where the plan has the beds of its own plan.
module _ {v : ℕ} {r j : Region} (stands : Stands v r j) (a : Accepted r) (plan own : Plan)
    (beds : (q : ℕ) → q < length r.patients → bed_of plan (v + q) ≡ bed_of own q) where
  pub entry_after : (t : Table) → t ∈ r.tables → entry_for j plan (table_after v t) ≡ entry_for r own t
  unfolding entry_for
  entry_after t k = ap (λ pairs. get_or t.entries (place pairs) none)
      (map-map _ (λ s. v + s) t.members ∙ map_same _ _ t.members (λ s i.
      let h = (table_right r a k).known i in
      λ l. ((stands.patient s h l).bed_count, beds s h l)))

  fixed_after : (q : ℕ) → q < length r.patients → fixed_cost j plan (v + q) ≡ fixed_cost r own q
  fixed_after q h = ap₂ (λ (p : Patient) (bed : ℕ). keeping p.bed_count p.fixed_bed bed) (stands.patient q h) (beds q h)

  part_total : plus (cost_over (map (table_after v) r.tables) j plan) (sum_over (fixed_cost j plan) (shifted v (patient_numbers r))) ≡ total r own
  unfolding cost_over
  part_total =
      ap₂ plus
      (sum_map (entry_for r own) (entry_for j plan) (table_after v) r.tables entry_after)
      (sum_map (fixed_cost r own) (fixed_cost j plan) (λ q. v + q) (patient_numbers r) (λ q k. fixed_after q (below_out _ q k)))
      ∙ sym (total_parts r own)

-- In a plan of the joined region the beds of the first come from 0 on, those of the second behind them.
module _ (r : Region) (p q : Plan) (long : length p ≡ length r.patients) (k : ℕ) where
  pub first_beds : k < length r.patients → bed_of (p ++ q) (0 + k) ≡ bed_of p k
  first_beds h = ap (bed_of (p ++ q)) (zero-add k) ∙ get_or-append p q 0 k (omega (arith, long))

  pub second_beds : bed_of (p ++ q) (length r.patients + k) ≡ bed_of q k
  second_beds = ap (λ n. bed_of (p ++ q) (n + k)) (sym long) ∙ get_or-append-add p q k 0

pub joined_total : (r s : Region) → Accepted r → Accepted s → (p q : Plan) → length p ≡ length r.patients
    → total (joined_region r s) (p ++ q) ≡ plus (total r p) (total s q)
unfolding cost_over
joined_total r s a b p q long =
    total_parts joined plan
    ∙ ap₂ plus
    (ap (sum_over (entry_for joined plan)) (joined_tables_lem r s) ∙ sum_append (entry_for joined plan) (map (table_after 0) r.tables) (map (table_after v) s.tables))
    (ap (sum_over (fixed_cost joined plan)) (joined_numbers r s) ∙ sum_append (fixed_cost joined plan) (shifted 0 (patient_numbers r)) (shifted v (patient_numbers s)))
    ∙ plus_pairs (tables 0 r) (tables v s) (fixed 0 r) (fixed v s)
    ∙ ap₂ plus
    (part_total (first_stands r s) a plan p (first_beds r p q long))
    (part_total (second_stands r s) b plan q (λ k h. second_beds r p q long k))
  where
    v : ℕ
    v = length r.patients

    joined : Region
    joined = joined_region r s

    plan : Plan
    plan = p ++ q

    tables : ℕ → Region → Option ℕ
    tables k x = cost_over (map (table_after k) x.tables) joined plan

    fixed : ℕ → Region → Option ℕ
    fixed k x = sum_over (fixed_cost joined plan) (shifted k (patient_numbers x))
