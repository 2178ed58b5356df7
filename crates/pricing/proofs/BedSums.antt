-- The loop that follows the terms of a bucket and adds up their entries for each permitted bed of a patient.
use mathlib.Core.Path.{◌≡◌, sym, ap, ◌∙◌, subst}
use Prim.Native.Nat.{◌≤◌}
use native.Mathlib.Omega.{arith}
use lib.ListN.{set, replicate, length-replicate, get_or-replicate}
use Rattle.std.specs.Prelude.{◌+◌, ◌*◌, ◌<◌}
use Rattle.definitions.specs.Basics.{ℕ, some, List, length, get_or}
use Rattle.definitions.specs.Syntax.{Region, patient_at}
use Rattle.theorems.specs.Sums.{plus, halves}
use Rattle.theorems.specs.Accepted.{beds_few}
use Rattle.definitions.specs.Plans.{Plan}
use Rattle.bucket_words.specs.Words.{first_at, start_at, next_at}
use Rattle.bucket_words.specs.Kept.{Kept}
use Rattle.buckets.specs.Permitted.{permitted_some, permitted_most}
use Rattle.buckets.specs.Terms.{Fitting, place_at, Prepared}
use Rattle.held_region.specs.Meaning.{said_by}
use Rattle.pricing.specs.Pricing.{sum_in}
use Rattle.pricing.specs.Costs.{fitting_set}
use Rattle.pricing.specs.BedCosts.{Small, most_added, AsksEntries, GivesEntries, Asks, Gives}
use Rattle.pricing.proofs.Chains.{Left, left_start, left_most, left_later, left_next_most, left_beside, left_inside, left_small, left_next, left_done}
use Rattle.bucket_words.specs.declared.PatientBucket.{PatientBucket}
use Rattle.bucket_words.specs.declared.TableTerm.{TableTerm}

-- Where the loop stands: for each bed, the sum so far and the tables that are left, whose terms begin at k.
pub record Sums (store : List ℕ) (patients : List PatientBucket) (terms : List TableTerm) (places : List ℕ) (s first end : ℕ) (sums : List ℕ) (k : ℕ) : Type 0 where
  pub long : length sums ≡ 16
  pub few : (bed n : ℕ) → first ≤ bed → bed < end → sum_in (get_or sums bed 0) ≡ some n → n ≤ k * 1_000_000
  pub most : (bed : ℕ) → first ≤ bed → bed < end → get_or sums bed 0 ≤ k * most_added
  pub left : (r : Region) (beds : Plan) → Prepared r store patients terms → Fitting r beds → Kept terms beds places → s < length r.patients → s < length beds
      → (bed : ℕ) → first ≤ bed → bed < end → Left r store terms s (set beds s bed) (sum_in (get_or sums bed 0)) k

module _ {store : List ℕ} {patients : List PatientBucket} {terms : List TableTerm} {places : List ℕ} {s first end : ℕ} (asks : Asks store patients terms places s first end) where
  -- In every region that the words are prepared for, the permitted beds are among the patient's.
  inside : (r : Region) → Prepared r store patients terms → s < length r.patients → (bed : ℕ) → bed < end → bed < (patient_at r s).bed_count
  inside r prepared known bed h = omega (arith, asks.ends, prepared.bed_end s known, permitted_most r prepared.accepted s known)

  own_inside : (bed : ℕ) → bed < end → bed < (patient_at asks.region s).bed_count
  own_inside = inside asks.region asks.prepared asks.known

  -- There is one.
  some_bed : first < end
  some_bed = omega (arith, asks.firsts, asks.ends, asks.prepared.first_bed s asks.known, asks.prepared.bed_end s asks.known, permitted_some asks.region asks.prepared.accepted s asks.known)

  few_beds : end ≤ 16
  few_beds =
      let most = permitted_most asks.region asks.prepared.accepted s asks.known in
      omega (arith, asks.ends, asks.prepared.bed_end s asks.known, most, beds_few asks.region asks.prepared.accepted s asks.known)

  abbrev zeros : List ℕ
  zeros = replicate 16 0

  nothing : (bed : ℕ) → bed < end → get_or zeros bed 0 ≡ 0
  nothing bed h = get_or-replicate 16 bed 0 0 (omega (arith, few_beds))

  pub sums_start : Sums store patients terms places s first end zeros (first_at patients s)
  sums_start = record {
    long = length-replicate {A = ℕ} 16 0;
    few = λ bed n l h e. (let zero : some 0 ≡ some n = sym (ap sum_in (nothing bed h)) ∙ e in let none : n ≡ 0 = cc in omega arith);
    most = λ bed l h. omega (arith, nothing bed h);
    left = λ r beds prepared fits kept known long bed l h.
        subst (λ w. Left r store terms s (set beds s bed) (sum_in w) (first_at patients s)) (sym (nothing bed h)) (left_start r store terms s (set beds s bed) (prepared.bucket s known));
  }

  module _ {sums : List ℕ} {k : ℕ} (so : Sums store patients terms places s first end sums k) where
    own : (bed : ℕ) → first ≤ bed → bed < end → Left asks.region store terms s (set asks.beds s bed) (sum_in (get_or sums bed 0)) k
    own = so.left asks.region asks.beds asks.prepared asks.fits asks.kept asks.known asks.long

    one : Left asks.region store terms s (set asks.beds s first) (sum_in (get_or sums first 0)) k
    one = own first (omega arith) some_bed

    own_fits : (bed : ℕ) → bed < end → Fitting asks.region (set asks.beds s bed)
    own_fits bed h = fitting_set asks.region asks.beds s bed asks.long asks.fits (own_inside bed h)

    pub sums_most : k ≤ 64
    sums_most = left_most one

    sums_small : (bed : ℕ) → first ≤ bed → bed < end → Small (get_or sums bed 0)
    sums_small bed l h n e = omega (arith, so.few bed n l h e, sums_most)

    pub sums_done : 64 ≤ k → Gives store patients terms places s first end sums
    sums_done past = record { small = sums_small; cost = λ r beds prepared fits kept known long bed l h. left_done (so.left r beds prepared fits kept known long bed l h) past }

    module _ (more : k < 64) where
      pub sums_later : (k < next_at terms k) × (next_at terms k ≤ 64)
      sums_later = (left_later one more, left_next_most one more)

      -- The place for a bed is that many further on than the kept one.
      place : (beds : Plan) → Kept terms beds places → s < length beds → (bed : ℕ) → start_at terms k + get_or places k 0 + bed ≡ place_at terms k (set beds s bed)
      place beds kept long bed = omega (arith, left_beside one more beds bed long, kept.each k more)

      own_place : (bed : ℕ) → start_at terms k + get_or places k 0 + bed ≡ place_at terms k (set asks.beds s bed)
      own_place = place asks.beds asks.kept asks.long

      pub sums_inside : (bed : ℕ) → first ≤ bed → bed < end → start_at terms k + get_or places k 0 + bed < 4096
      sums_inside bed l h = omega (arith, own_place bed, left_inside (own bed l h) more (own_fits bed h))

      pub sums_near : start_at terms k + get_or places k 0 < 4096
      sums_near = omega (arith, sums_inside first (omega arith) some_bed)

      module _ {from : ℕ} (is : from ≡ start_at terms k + get_or places k 0) where
        pub sums_entries : AsksEntries store from first end sums
        sums_entries = record {
          ordered = omega (arith, some_bed);
          few = few_beds;
          inside = λ bed l h. omega (arith, is, sums_inside bed l h);
          long = so.long;
          small = sums_small;
          room = λ bed l h. omega (arith, so.most bed l h, sums_most);
        }

        module _ {after : List ℕ} (gives : GivesEntries store from first end sums after) where
          -- A bed's sum has grown by the entry at the place for it.
          grown : (beds : Plan) → Kept terms beds places → s < length beds → (bed : ℕ) → first ≤ bed → bed < end
              → sum_in (get_or after bed 0) ≡ plus (sum_in (get_or sums bed 0)) (said_by (get_or store (place_at terms k (set beds s bed)) 0))
          grown beds kept long bed l h =
              (gives.each bed l h).is ∙ ap (λ at. plus (sum_in (get_or sums bed 0)) (said_by (get_or store at 0))) (ap (λ n. n + bed) is ∙ place beds kept long bed)

          pub sums_next : Sums store patients terms places s first end after (next_at terms k)
          sums_next = record {
            long = gives.long;
            few = λ bed n l h e.
                let parts = halves (sum_in (get_or sums bed 0)) (said_by (get_or store (place_at terms k (set asks.beds s bed)) 0)) n (sym (grown asks.beds asks.kept asks.long bed l h) ∙ e) in
                omega (arith, so.few bed parts.x l h parts.left, left_small (own bed l h) more (own_fits bed h) parts.y parts.right, parts.whole, sums_later.0);
            most = λ bed l h. omega (arith, (gives.each bed l h).most, so.most bed l h, sums_later.0);
            left = λ r beds prepared fits kept known long bed l h.
                subst (λ o. Left r store terms s (set beds s bed) o (next_at terms k)) (sym (grown beds kept long bed l h))
                (left_next (so.left r beds prepared fits kept known long bed l h) more (fitting_set r beds s bed long fits (inside r prepared known bed h)));
          }
