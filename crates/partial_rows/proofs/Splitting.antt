-- A row of a set that is split is a step in the first part and a row of the second part below it.
use Rattle.std.proofs.Common.{sym, ap₂, ◌∙◌, arith, ◌+◌, ◌≡◌, ◌&&◌}
use Rattle.std.proofs.Math.Path.{ap}
use Rattle.std.specs.Prelude.{◌↔◌}
use Rattle.std.proofs.lemmas.Bool.{not-true}
use Rattle.definitions.specs.Basics.{ℕ, true, not, some, List}
use Rattle.definitions.specs.Syntax.{Table, Region}
use Rattle.definitions.specs.Plans.{Plan, bed_of, cost_over, constraints, Row}
use Rattle.lists.specs.Tests.{both}
use Rattle.lists.specs.Members.{◌∈◌}
use Rattle.lists.specs.Keep.{keep_out}
use Rattle.theorems.specs.Sums.{plus, Halves, halves}
use Rattle.partial_rows.specs.Adding.{add_beds, add_rows, add_beds_assoc}
use Rattle.partial_rows.specs.Sets.{Patients, Splits, not_both}
use Rattle.partial_rows.specs.Rows.{holds, tables_of, decided_tables, beds_in, BedsOf, RowOf, Step, Branch}
use Rattle.partial_rows.specs.Costs.{cost_same, cost_split}
use Rattle.partial_rows.specs.Beds.{beds_same, add_beds_lem, beds_in_first, beds_in_second, beds_split}
use Rattle.partial_rows.specs.Splitting.{unseen, priced_by_beds, branch_agrees}

step_by_beds : {region : Region} {D E : Patients} {placed : Plan} {v w : Row} → Step region D E placed v → Step region D E placed w → v.beds ≡ w.beds → v ≡ w
step_by_beds {region} {D} {E} {placed} p q e = priced_by_beds (λ b. cost_over (decided_tables region D E) region (add_beds placed b)) p.priced q.priced e

module _ (region : Region) {D E F : Patients} (split : Splits D E F) (placed : Plan) where
  -- The cost of a row: that of the second part, with the first part placed too, and that of the step.
  cost_parts : (xs ys : List ℕ) → BedsOf region F ys
      → cost_over (tables_of region D) region (add_beds placed (add_beds xs ys))
      ≡ plus (cost_over (tables_of region F) region (add_beds (add_beds placed xs) ys)) (cost_over (decided_tables region E F) region (add_beds placed xs))
  unfolding decided_tables
  cost_parts xs ys b = ap (cost_over (tables_of region D) region) (sym (add_beds_assoc placed xs ys)) ∙ cost_split region split (add_beds (add_beds placed xs) ys)
      ∙ ap (plus (cost_over (tables_of region F) region (add_beds (add_beds placed xs) ys))) (cost_same region _ _ (decided_tables region E F) unchanged)
    where
      unchanged : (t : Table) → t ∈ decided_tables region E F → (s : ℕ) → s ∈ t.members → bed_of (add_beds (add_beds placed xs) ys) s ≡ bed_of (add_beds placed xs) s
      unchanged t k = unseen (add_beds placed xs) b t
          (not-true (holds F t) (both (holds E t) (keep_out (λ t. holds E t && not (holds F t)) (constraints region) k).1).1)

  -- A step and a row below it make a row; every row is made so.
  pub row_together : (u v : Row) → Step region E F placed u → RowOf region F (add_beds placed u.beds) v → RowOf region D placed (add_rows u v)
  row_together u v p q = record {
    fits = add_beds_lem split p.fits q.fits;
    priced = cost_parts u.beds v.beds q.fits ∙ ap₂ plus q.priced p.priced ∙ ap some (omega arith);
  }

  pub row_apart : (z : Row) → RowOf region D placed z → (u : Row) × Step region E F placed u × Branch region F (add_beds placed u.beds) u z
  row_apart z r = (
    u,
    record { fits = beds_in_first region split r.fits; priced = prices.right },
    record {
      rest = record { cost = prices.x; beds = ys };
      in_rest = record { fits = others; priced = prices.left };
      is = λ i. record { cost = sum i; beds = beds_split region split r.fits i };
    },
  )
    where
      xs : List ℕ
      xs = beds_in region E z.beds

      ys : List ℕ
      ys = beds_in region F z.beds

      others : BedsOf region F ys
      others = beds_in_second region split r.fits

      prices : Halves (cost_over (tables_of region F) region (add_beds (add_beds placed xs) ys)) (cost_over (decided_tables region E F) region (add_beds placed xs)) z.cost
      prices = halves _ _ z.cost (sym (cost_parts xs ys others)
          ∙ ap (λ b. cost_over (tables_of region D) region (add_beds placed b)) (sym (beds_split region split r.fits)) ∙ r.priced)

      u : Row
      u = record { cost = prices.y; beds = xs }

      sum : z.cost ≡ prices.y + prices.x
      sum = omega (arith, prices.whole)

  -- Below a given step are the rows that agree with its beds in the first part.
  pub extends : (u : Row) → Step region E F placed u → (z : Row)
      → (RowOf region D placed z × ((s : ℕ) → E s ≡ true → bed_of z.beds s ≡ bed_of u.beds s)) ↔ Branch region F (add_beds placed u.beds) u z
  extends u p z = (
    λ (r, agree).
        let (v, q, b) = row_apart z r in
        let same : v ≡ u = step_by_beds q p (beds_same q.fits p.fits (λ s h e. sym (branch_agrees b s (not_both split s e)) ∙ agree s e)) in
        rw same at b,
    λ b. (rw b.is (row_together u b.rest p b.in_rest), λ s e. branch_agrees b s (not_both split s e)),
  )
