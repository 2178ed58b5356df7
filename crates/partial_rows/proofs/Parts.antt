-- Two parts that no table joins: the rows of both together are the sums of a row of each, so the first of them come from the first of each.
use Rattle.std.proofs.Common.{sym, ◌∙◌, true≢false, ◌≡◌, ◌&&◌}
use Rattle.std.proofs.Math.Path.{ap}
use Rattle.std.specs.Prelude.{◌↔◌, ◌≤◌}
use Rattle.std.proofs.Math.Bool.{not-eq-not}
use Rattle.definitions.specs.Basics.{ℕ, refl, Bool, true, false, not, List, take, sort}
use Rattle.definitions.specs.Syntax.{Table, Region}
use Rattle.definitions.specs.Plans.{Plan, bed_of, constraints, Row, compare_rows}
use Rattle.lists.specs.Members.{◌∈◌}
use Rattle.lists.specs.Keep.{keep_same}
use Rattle.ranking.specs.First.{First, first_iff}
use Rattle.ranking.specs.Combining.{Combined, cross}
use Rattle.ranking.proofs.Combining.{first_combined, first_cross}
use Rattle.theorems.specs.List.{row_order}
use Rattle.partial_rows.specs.Adding.{add_beds, add_rows}
use Rattle.partial_rows.specs.Sets.{Patients, Splits}
use Rattle.partial_rows.specs.Rows.{holds, tables_of, decided_tables, BedsOf, RowOf, Step}
use Rattle.partial_rows.specs.Contexts.{row_context}
use Rattle.partial_rows.specs.Splitting.{unseen}
use Rattle.partial_rows.proofs.Splitting.{row_together, row_apart}
use Rattle.partial_rows.specs.Parts.{Apart, parts_rising, parts_injective}

module _ (region : Region) {D E F : Patients} (split : Splits D E F) (apart : Apart region E F) (placed : Plan) where
  -- Then a step in the first part is a row of it, ..
  decided_all : decided_tables region E F ≡ tables_of region E
  unfolding decided_tables tables_of
  decided_all = keep_same (λ t. holds E t && not (holds F t)) (holds E) (constraints region) (λ t k. go (holds E t) (apart t k))
    where
      go : {b : Bool} (a : Bool) → (a ≡ true → b ≡ false) → (a && not b) ≡ a
      go true h = ap not (h refl)
      go false h = refl

  step_row : {u : Row} → Step region E F placed u ↔ RowOf region E placed u
  step_row {u} = (
    λ p. record { fits = p.fits; priced = rw decided_all at p.priced },
    λ r. record { fits = r.fits; priced = rw decided_all r.priced },
  )

  -- .. and the rows of the second part do not depend on it.
  second_unseen : {xs : List ℕ} → BedsOf region E xs → (t : Table) → t ∈ constraints region → holds F t ≡ true
      → (s : ℕ) → s ∈ t.members → bed_of (add_beds placed xs) s ≡ bed_of placed s
  second_unseen b t k held = unseen placed b t (not-eq-not.0 (λ e. true≢false (sym held ∙ apart t k e)))

  -- So the rows of both together are the sums of a row of each.
  pub parts_rows : (z : Row) → RowOf region D placed z ↔ Combined add_rows (RowOf region E placed) (RowOf region F placed) z
  parts_rows z = (
    λ r. let (u, p, b) = row_apart region split placed z r in record {
      left = u;
      right = b.rest;
      in_left = step_row.0 p;
      in_right = row_context (second_unseen p.fits) b.in_rest;
      is = b.is;
    },
    λ c. rw c.is (row_together region split placed c.left c.right (step_row.1 c.in_left)
        (row_context (λ t k h s i. sym (second_unseen c.in_left.fits t k h s i)) c.in_right)),
  )

  -- The first m of both together come from the first m of each.
  pub parts_first : {m j k : ℕ} {xs ys : List Row} → m ≤ j → m ≤ k → First row_order j (RowOf region E placed) xs → First row_order k (RowOf region F placed) ys
      → First row_order m (RowOf region D placed) (take m (sort compare_rows (cross add_rows xs ys)))
  parts_first lej lek h g = first_iff (λ z. (parts_rows z).1) (λ z. (parts_rows z).0) (first_cross (parts_rising region split apart placed) (parts_injective region split apart placed) lej lek h g)

  -- So do those of the combinations of two lists that hold them.
  pub parts_combined : {m j k : ℕ} {xs ys l : List Row} → m ≤ j → m ≤ k → First row_order j (RowOf region E placed) xs → First row_order k (RowOf region F placed) ys
      → First row_order m (Combined add_rows (λ x. x ∈ xs) (λ y. y ∈ ys)) l → First row_order m (RowOf region D placed) l
  parts_combined lej lek h g c = first_iff (λ z. (parts_rows z).1) (λ z. (parts_rows z).0) ((first_combined (parts_rising region split apart placed) lej lek h g).1 c)
