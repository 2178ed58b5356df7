-- One more bed on a walk: what it asks for, and the head below it.
use mathlib.Core.Path.{◌≡◌, refl, sym, ap, ◌∙◌, subst⁻¹}
use Prim.Native.Nat.{◌≤◌}
use native.Mathlib.Omega.{arith}
use lib.ListN.{set, length-set}
use lib.Seq.{take-set-lt, get_or-set_same}
use borrow.Author.Tests.{eq-eqb}
use Rattle.std.specs.Prelude.{◌+◌, ◌<◌, ◌&&◌, ◌||◌, ◌∷◌}
use Rattle.definitions.specs.Basics.{ℕ, true, not, Option, none, List, map, length, get_or, take, sum, eqb, is_empty, contains, ltb, every_two}
use Rattle.definitions.specs.Syntax.{Region, patient_at}
use Rattle.definitions.specs.Plans.{bed_of, cost_over}
use Rattle.theorems.specs.Accepted.{most_total}
use Rattle.patient_set.specs.Sets.{in_set, members, first}
use Rattle.patient_set.specs.Laws.{rising, lowest_and_rest}
use Rattle.partial_rows.specs.Sets.{only, Splits}
use Rattle.partial_rows.specs.Rows.{Position, decided_tables, with_bed, LowerBound}
use Rattle.partial_rows.specs.Branches.{position_bed}
use Rattle.bucket_words.specs.Words.{least_at, first_bed_at, bed_end_at}
use Rattle.bucket_words.specs.Kept.{Kept}
use Rattle.kept_places.specs.Beds.{low_set}
use Rattle.buckets.specs.Terms.{Fitting, least_in}
use Rattle.pricing.specs.BedCosts as Price
use Rattle.pricing.specs.Pricing.{sum_in}
use Rattle.pricing.specs.Costs.{fitting_set}
use Rattle.pricing.specs.declared.Plan as Code
use Rattle.search.specs.Decided.{decided_at, permitted_cost, forbidden_before, forbidden_from}
use Rattle.search.specs.Lowest.{list_split, list_lowest, bucket_decided, upward_rest, bound_members}
use Rattle.search.specs.Walks.{Branching, remaining, left_in, head_row, SumsFit, Heads, AsksNext, Below, Decides, GivesRest}
use Rattle.patient_set.specs.declared.PatientSet.{PatientSet}
use Rattle.bucket_words.specs.declared.PatientBucket.{PatientBucket}
use Rattle.bucket_words.specs.declared.TableTerm.{TableTerm}

module _ {r : Region} {store : List ℕ} {patients : List PatientBucket} {terms : List TableTerm} {v : ℕ} {head : Branching} (heads : Heads r store patients terms v head) {s : ℕ} {others : List ℕ} (lowest : remaining head ≡ s ∷ others) where
  here : left_in head s ≡ true
  here = ap (λ l. contains l s) lowest ∙ ap (λ b. b || contains others s) (eq-eqb s s refl)

  pub known : s < length r.patients
  known = heads.position.known s here

  pub least_known : least_at patients s ≡ least_in r s
  least_known = heads.prepared.least s known

  pub least_most : least_at patients s ≤ head.bound
  least_most = omega (arith, least_known, heads.bound ∙ ap (λ l. sum (map (least_in r) l)) lowest)

  up : every_two ltb (s ∷ others) ≡ true
  up = ap (every_two ltb) (sym lowest) ∙ rising head.left.0

  pub split : Splits (left_in head) (only s) (contains others)
  split = list_split (left_in head) s others (λ q. ap (λ l. contains l q) lowest) up

  low : (q : ℕ) → left_in head q ≡ true → s ≤ q
  low = list_lowest (left_in head) s others (λ q. ap (λ l. contains l q) lowest) up

  pub decided : decided_tables r (only s) (contains others) ≡ decided_at r s
  decided = bucket_decided r s split low heads.upward

  fits_next : SumsFit head → (bed : ℕ) → bed < (patient_at r s).bed_count → Fitting r (set head.plan.beds s bed)
  fits_next sums_fit bed h = fitting_set r head.plan.beds s bed (omega (arith, known, heads.counted, heads.few, sums_fit.beds)) heads.fits h

  -- The bed that is set.
  pub next_bed : SumsFit head → (bed : ℕ) → bed_of (set head.plan.beds s bed) s ≡ bed
  next_bed sums_fit bed = get_or-set_same head.plan.beds s bed 0 (omega (arith, known, heads.counted, heads.few, sums_fit.beds))

  -- Beds before the first permitted one, and from the end on, are forbidden.
  module _ (sums_fit : SumsFit head) (bed : ℕ) (h : bed < (patient_at r s).bed_count) where
    pub not_before_first : {first : ℕ} → first ≡ first_bed_at patients s → bed < first → cost_over (decided_tables r (only s) (contains others)) r (set head.plan.beds s bed) ≡ none
    not_before_first firsts l =
        let bed_is = next_bed sums_fit bed in
        ap (λ l. cost_over l r (set head.plan.beds s bed)) decided
        ∙ forbidden_before r s (set head.plan.beds s bed) known (omega (arith, bed_is)) (omega (arith, bed_is, firsts, heads.prepared.first_bed s known))

    pub not_from_end : {end : ℕ} → end ≡ bed_end_at patients s → end ≤ bed → cost_over (decided_tables r (only s) (contains others)) r (set head.plan.beds s bed) ≡ none
    not_from_end ends l =
        let bed_is = next_bed sums_fit bed in
        ap (λ l. cost_over l r (set head.plan.beds s bed)) decided
        ∙ forbidden_from r s (set head.plan.beds s bed) known (omega (arith, bed_is)) (omega (arith, bed_is, ends, heads.prepared.bed_end s known))

  pub few : s < 32
  few = omega (arith, known, heads.counted, heads.few)

  -- It has no bed yet.
  pub without_bed : bed_of head.plan.beds s ≡ 0
  without_bed = heads.position.unplaced s here

  pub inside_beds : SumsFit head → s < length head.plan.beds
  inside_beds sums_fit = omega (arith, few, sums_fit.beds)

  -- What the costs of the patient's beds ask for.
  pub asks_beds : SumsFit head → {places : List ℕ} → Kept terms head.plan.beds places → {first end : ℕ} → first ≡ first_bed_at patients s → end ≡ bed_end_at patients s
      → Price.Asks store patients terms places s first end
  asks_beds sums_fit kept firsts ends =
      record {
        region = r;
        beds = head.plan.beds;
        prepared = heads.prepared;
        fits = heads.fits;
        kept = kept;
        known = known;
        few = few;
        firsts = firsts;
        ends = ends;
        long = inside_beds sums_fit;
      }

-- What is asked for on the way to the head below a bed.
module _ {store : List ℕ} {patients : List PatientBucket} {terms : List TableTerm} {head : Branching} {s bed : ℕ} (asks : AsksNext store patients terms head s bed) where
  pub asks_few : s < 32
  asks_few = few asks.heads asks.lowest

  pub asks_room : head.plan.len < 32
  asks_room = omega (arith, asks.sums_fit.placed, ap length asks.lowest)

  -- What a permitted bed decides costs as much as the sum for it says.
  pub decides : {first end : ℕ} {places sums : List ℕ} → Kept terms head.plan.beds places → first ≡ first_bed_at patients s → end ≡ bed_end_at patients s → first ≤ bed → bed < end
      → Price.Gives store patients terms places s first end sums → {o : Option ℕ} → sum_in (get_or sums bed 0) ≡ o → Decides store patients terms head s bed o
  decides kept firsts ends low high gives e r v heads h =
      let here = known heads asks.lowest in
      let bed_is = next_bed heads asks.lowest asks.sums_fit bed in
      permitted_cost r s (set head.plan.beds s bed) here (omega (arith, bed_is)) (omega (arith, bed_is, firsts, heads.prepared.first_bed s here)) (omega (arith, bed_is, ends, heads.prepared.bed_end s here))
      ∙ sym (gives.cost r head.plan.beds heads.prepared heads.fits kept here (inside_beds heads asks.lowest asks.sums_fit) bed low high) ∙ e

-- Those who are left without the lowest.
pub rest_left : (w s one rest : ℕ) (others : List ℕ) → members w ≡ s ∷ others → ((q : ℕ) → in_set one q ≡ eqb q s) → ((q : ℕ) → in_set rest q ≡ (in_set w q && not (in_set one q)))
    → members w ≡ s ∷ members rest
rest_left w s one rest others e is minus = lowest_and_rest w s one rest (ap is_empty e) (sym (ap (first 32) e)) is minus

-- The head below a bed.
module _ {patients : List PatientBucket} {head below : Branching} {s bed c : ℕ} (is : Below patients head s bed c below) where
  pub sums_fit_below : bed < 16 → SumsFit head → SumsFit below
  sums_fit_below small sums_fit =
      record {
        beds = ap length is.beds ∙ length-set head.plan.beds s bed ∙ sums_fit.beds;
        low = λ q. rw is.beds (low_set head.plan.beds s bed small sums_fit.low q);
        placed = omega (arith, is.len, sums_fit.placed, ap length is.left);
        cost = omega (arith, is.len, is.cost, is.most, sums_fit.cost);
        bound = omega (arith, is.bound, sums_fit.bound);
      }

  module _ {r : Region} {store : List ℕ} {terms : List TableTerm} {v : ℕ} (heads : Heads r store patients terms v head) where
    pub below_split : Splits (left_in head) (only s) (left_in below)
    below_split = split heads is.left

    pub row_below : head_row v below ≡ with_bed (head_row v head) s bed c
    row_below =
        let cost : below.cost ≡ head.cost + c = is.cost in
        let beds : take v below.plan.beds ≡ set (take v head.plan.beds) s bed =
        ap (take v) is.beds ∙ take-set-lt v head.plan.beds s bed (omega (arith, known heads is.left, heads.counted)) in
        λ i. record { cost = cost i; beds = beds i }

    pub heads_below : SumsFit head → bed < (patient_at r s).bed_count → Heads r store patients terms v below
    heads_below sums_fit h =
        record {
          prepared = heads.prepared;
          counted = heads.counted;
          few = heads.few;
          fits = rw is.beds (fits_next heads is.left sums_fit bed h);
          position = subst⁻¹ (λ p. Position r (left_in below) p (head_row v below)) is.beds
              (subst⁻¹ (λ u. Position r (left_in below) (set head.plan.beds s bed) u) row_below (position_bed s below_split heads.position bed c));
          upward = upward_rest r s below_split (low heads is.left) heads.upward;
          bound = omega (arith, is.bound, least_known heads is.left, heads.bound ∙ ap (λ l. sum (map (least_in r) l)) is.left);
        }

-- The bound of a head is a lower bound of what the rest costs.
pub bound_holds : {r : Region} {store : List ℕ} {patients : List PatientBucket} {terms : List TableTerm} {v : ℕ} {head : Branching} → Heads r store patients terms v head
    → LowerBound r (left_in head) head.plan.beds head.bound
bound_holds {r} {head} heads =
    rw heads.bound (bound_members r (remaining head) (left_in head) (λ q. refl) (rising head.left.0) heads.upward head.plan.beds)

-- The head below a bed, put together from the longer plan.
pub below_head : {patients : List PatientBucket} {head : Branching} {s bed c : ℕ} {rest : PatientSet × ℕ} (longer : Code.Plan) (others : List ℕ) → remaining head ≡ s ∷ others
    → GivesRest patients (remaining head) head.bound s rest → longer.beds ≡ set head.plan.beds s bed → longer.len ≡ head.plan.len + 1 → c ≤ most_total
    → Below patients head s bed c (record { left = rest.0; plan = record { beds = longer.beds; len = longer.len }; cost = head.cost + c; bound = rest.1 })
below_head longer others lowest rest beds len most = record { left = rest.left others lowest; beds = beds; len = len; cost = refl; most = most; bound = rest.bound }

-- The same of the plan that the bed would make.
pub below_bed : {patients : List PatientBucket} {head : Branching} {s bed c : ℕ} {rest : PatientSet × ℕ} (others : List ℕ) → remaining head ≡ s ∷ others → GivesRest patients (remaining head) head.bound s rest → c ≤ most_total
    → Below patients head s bed c (record { left = rest.0; plan = record { beds = set head.plan.beds s bed; len = head.plan.len + 1 }; cost = head.cost + c; bound = rest.1 })
below_bed {head} {s} {bed} others lowest rest most = below_head (record { beds = set head.plan.beds s bed; len = head.plan.len + 1 }) others lowest rest refl refl most
