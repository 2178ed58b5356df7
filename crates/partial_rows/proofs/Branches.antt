-- The branches of a walk: where they begin and end, what stands below one more bed, and what none of their rows comes before.
use Rattle.std.proofs.Common.{sym, ap, ◌∙◌, arith, eqb-true, eq-eqb, length-set, get_or-set_same, get_or-set_other, ◌+◌, ◌<◌, ◌≡◌}
use Rattle.std.specs.Prelude.{◌↔◌, set}
use Rattle.std.proofs.Math.Option.{none-ne-some}
use Rattle.std.proofs.lemmas.Bool.{eqb-false}
use Rattle.std.proofs.lemmas.List.{length-replicate}
use Rattle.definitions.specs.Basics.{ℕ, refl, Bool, true, false, eqb, none, some, List, length}
use Rattle.definitions.specs.Syntax.{Region, patient_at}
use Rattle.definitions.specs.Plans.{Plan, bed_of, cost_over, Row}
use Rattle.partial_rows.specs.Adding.{add_beds, add_rows, add_at, add_one_bed, add_rows_assoc}
use Rattle.partial_rows.specs.Sets.{Patients, only, Splits, not_both}
use Rattle.partial_rows.specs.Rows.{decided_tables, no_beds, BedIn, BedsOf, Step, Branch, Position, with_bed}
use Rattle.partial_rows.specs.Beds.{no_bed, inside, beds_same}
use Rattle.partial_rows.specs.Splitting.{branch_agrees}
use Rattle.partial_rows.proofs.Splitting.{row_apart, extends}
use Rattle.partial_rows.specs.Branches.{mine, known, placed_next}

-- ---- one patient

module _ {region : Region} {D F : Patients} (s : ℕ) (split : Splits D (only s) F) {placed : Plan} {u : Row} (position : Position region D placed u) where
  abbrev one_bed : ℕ → List ℕ
  one_bed b = set (no_beds region) s b

  one_bed_at : (b : ℕ) → bed_of (one_bed b) s ≡ b
  one_bed_at b = get_or-set_same (no_beds region) s b 0 (omega (arith, known s split position, length-replicate {A = ℕ} (length region.patients) 0))

  one_bed_lem : (b : ℕ) → b < (patient_at region s).bed_count → BedsOf region (only s) (one_bed b)
  one_bed_lem b h = record { long = length-set (no_beds region) s b ∙ length-replicate _ 0; each = λ r k. go r (eqb s r) refl }
    where
      go : (r : ℕ) (a : Bool) → eqb s r ≡ a → BedIn a (patient_at region r).bed_count (bed_of (one_bed b) r)
      go r true e = rw (← eqb-true s r e, one_bed_at b) h
      go r false e = get_or-set_other (no_beds region) s r b 0 (λ q. eqb-false s r e (sym q)) ∙ no_bed region r

  pub bed_step : (b c : ℕ) → b < (patient_at region s).bed_count → cost_over (decided_tables region (only s) F) region (set placed s b) ≡ some c
      → Step region (only s) F placed (record { cost = c; beds = set (no_beds region) s b })
  bed_step b c h e = record { fits = one_bed_lem b h; priced = rw (placed_next s split position b) e }

  -- The bed that a row of the branch has for s is its rest's.
  rest_bed : {z : Row} (b : Branch region D placed u z) → bed_of z.beds s ≡ bed_of b.rest.beds s
  rest_bed b = rw b.is (omega (arith, add_at u.beds b.rest.beds s, position.unplaced_in_head s (mine s split position)))

  -- It is below the count.
  pub branch_bed_below : {z : Row} → Branch region D placed u z → bed_of z.beds s < (patient_at region s).bed_count
  branch_bed_below b = rw (rest_bed b) (inside b.in_rest.fits s (known s split position) (mine s split position))

  -- The rows with bed b for s are the branch below that bed, with the cost of the tables that it decides.
  pub branch_bed : (b c : ℕ) → b < (patient_at region s).bed_count → cost_over (decided_tables region (only s) F) region (set placed s b) ≡ some c
      → (z : Row) → (Branch region D placed u z × (bed_of z.beds s ≡ b)) ↔ Branch region F (set placed s b) (with_bed u s b c) z
  branch_bed b c h e z = (
    λ (r, at).
        let q = (extends region split placed v step r.rest).0 (r.in_rest, λ t k. rw (← eqb-true s t k) (sym (rest_bed r) ∙ at ∙ sym (one_bed_at b))) in
        record {
          rest = q.rest;
          in_rest = rw (placed_next s split position b) at q.in_rest;
          is = r.is ∙ ap (add_rows u) q.is ∙ sym (add_rows_assoc u v q.rest) ∙ ap (λ w. add_rows w q.rest) head;
        },
    λ q.
        let r = ((extends region split placed v step (add_rows v q.rest)).1 (record { rest = q.rest; in_rest = rw (placed_next s split position b) q.in_rest; is = refl })).0 in (
          record { rest = add_rows v q.rest; in_rest = r; is = q.is ∙ ap (λ w. add_rows w q.rest) (sym head) ∙ add_rows_assoc u v q.rest },
          branch_agrees q s (not_both split s (eq-eqb s s refl)) ∙ get_or-set_same u.beds s b 0 (omega (arith, known s split position, position.long)),
        ),
  )
    where
      v : Row
      v = record { cost = c; beds = one_bed b }

      step : Step region (only s) F placed v
      step = bed_step b c h e

      head : add_rows u v ≡ with_bed u s b c
      head = λ i. record {
        cost = u.cost + c;
        beds = add_one_bed u.beds (length region.patients) s b (omega (arith, position.long)) (known s split position) (position.unplaced_in_head s (mine s split position)) i;
      }

  -- There are none where one of those tables forbids it.
  pub branch_forbidden : (b : ℕ) → cost_over (decided_tables region (only s) F) region (set placed s b) ≡ none
      → (z : Row) → Branch region D placed u z → bed_of z.beds s ≡ b → ⊥
  branch_forbidden b e z r at =
      let (v, step, q) = row_apart region split placed r.rest r.in_rest in
      let bed : bed_of v.beds s ≡ b = sym (branch_agrees q s (not_both split s (eq-eqb s s refl))) ∙ sym (rest_bed r) ∙ at in
      let below : b < (patient_at region s).bed_count = omega (arith, branch_bed_below r, at) in
      let same : v.beds ≡ one_bed b = beds_same step.fits (one_bed_lem b below) (λ t h k. rw (← eqb-true s t k) (bed ∙ sym (one_bed_at b))) in
      let plan : set placed s b ≡ add_beds placed v.beds = sym (placed_next s split position b) ∙ ap (add_beds placed) (sym same) in
      none-ne-some v.cost (sym e ∙ ap (cost_over (decided_tables region (only s) F) region) plan ∙ step.priced)
