-- What is decided where a patient gets its bed as the highest of a constraint's members: its bucket, and its fixed bed.
use Rattle.std.specs.Prelude.{◌≡◌, refl, ◌≤◌}
use Rattle.std.proofs.Math.Path.{ap}
use Rattle.std.proofs.Common.{ap₂, ◌∙◌, arith, le-leb, lt-ltb, le-ltb, ◌<◌, ◌&&◌, ◌∷◌}
use Rattle.std.proofs.Math.Bool.{and-false}
use Rattle.std.proofs.lemmas.Bool.{lt-leb}
use Rattle.definitions.specs.Basics.{ℕ, Bool, not, cond, none, some, List, [], length, leb, ltb, any, keep}
use Rattle.definitions.specs.Syntax.{Table, Region, patient_numbers, patient_at}
use Rattle.definitions.specs.Plans.{Plan, bed_of, cost_over}
use Rattle.lists.specs.Keep.{keep_same}
use Rattle.lists.specs.Below.{keep_one}
use Rattle.theorems.specs.Sums.{plus, plus_zero, plus_if, sum_over, sum_cons}
use Rattle.theorems.specs.Fixed.{fixed_cost, permits, fixed_cost_lem, part_parts, part_tables}
use Rattle.partial_rows.specs.Sets.{only}
use Rattle.partial_rows.specs.Rows.{decided_tables}
use Rattle.buckets.specs.Permitted.{first_permitted, permitted_end, permitted_is}
use Rattle.buckets.specs.Highest.{in_bucket}
use Rattle.buckets.specs.Terms.{bucket_of}

unfoldable pub decided_at : Region → ℕ → List Table
decided_at r s = decided_tables r (only s) (ltb s)

-- Is s the highest of these members?
abbrev is_highest : ℕ → List ℕ → Bool
is_highest s members = any (only s) members && not (any (ltb s) members)

module _ (r : Region) (s : ℕ) (plan : Plan) where
  -- What they cost together, the tables of the bucket cost.
  pub decided_tables_lem : (n : ℕ) → cost_over (decided_at r s) r plan ≡ some n → cost_over (bucket_of r s) r plan ≡ some n
  unfolding decided_at decided_tables bucket_of
  decided_tables_lem n e = part_tables r plan (is_highest s) n e

  module _ (known : s < length r.patients) where
    own_fixed : keep (λ q. is_highest s (q ∷ [])) (patient_numbers r) ≡ s ∷ []
    own_fixed =
        keep_same (λ q. is_highest s (q ∷ [])) _ (patient_numbers r) (λ q k. in_bucket s (record { members = q ∷ []; entries = [] }) (omega arith) refl)
        ∙ keep_one (length r.patients) s known

    decided_cost : cost_over (decided_at r s) r plan ≡ plus (cost_over (bucket_of r s) r plan) (fixed_cost r plan s)
    unfolding decided_at decided_tables bucket_of
    decided_cost =
        part_parts r plan (is_highest s)
        ∙ ap (plus (cost_over (bucket_of r s) r plan)) (ap (sum_over (fixed_cost r plan)) own_fixed ∙ sum_cons (fixed_cost r plan) s [] ∙ plus_zero (fixed_cost r plan s))

    -- A bed that is permitted costs what the bucket does, any other is forbidden.
    module _ (fits : bed_of plan s < (patient_at r s).bed_count) where
      by_range : cost_over (decided_at r s) r plan
          ≡ cond (leb (first_permitted (patient_at r s)) (bed_of plan s) && ltb (bed_of plan s) (permitted_end (patient_at r s))) (cost_over (bucket_of r s) r plan) none
      by_range =
          decided_cost ∙ ap (plus (cost_over (bucket_of r s) r plan)) (fixed_cost_lem r plan s fits)
          ∙ plus_if (cost_over (bucket_of r s) r plan) (permits r s (bed_of plan s))
          ∙ ap (λ b. cond b (cost_over (bucket_of r s) r plan) none) (permitted_is (patient_at r s) (bed_of plan s) fits)

      pub permitted_cost : first_permitted (patient_at r s) ≤ bed_of plan s → bed_of plan s < permitted_end (patient_at r s) → cost_over (decided_at r s) r plan ≡ cost_over (bucket_of r s) r plan
      permitted_cost low high =
          by_range
          ∙ ap₂ (λ a b. cond (a && b) (cost_over (bucket_of r s) r plan) none) (le-leb (first_permitted (patient_at r s)) (bed_of plan s) low) (lt-ltb (bed_of plan s) (permitted_end (patient_at r s)) high)

      pub forbidden_before : bed_of plan s < first_permitted (patient_at r s) → cost_over (decided_at r s) r plan ≡ none
      forbidden_before h =
          by_range
          ∙ ap (λ a. cond (a && ltb (bed_of plan s) (permitted_end (patient_at r s))) (cost_over (bucket_of r s) r plan) none) (lt-leb (first_permitted (patient_at r s)) (bed_of plan s) h)

      pub forbidden_from : permitted_end (patient_at r s) ≤ bed_of plan s → cost_over (decided_at r s) r plan ≡ none
      forbidden_from h =
          let low = leb (first_permitted (patient_at r s)) (bed_of plan s) in
          by_range ∙ ap (λ b. cond b (cost_over (bucket_of r s) r plan) none) (ap (λ b. low && b) (le-ltb (bed_of plan s) (permitted_end (patient_at r s)) h) ∙ and-false low)
