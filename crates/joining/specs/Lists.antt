-- The list of the joined region is the first m pairs of a row from each list; it has none where either has none.
use Rattle.std.specs.Prelude.{◌≡◌, refl, drop}
use Rattle.std.proofs.Common.{sym, ap₂, ◌∙◌, subst, inl, inr, arith, length-drop, take-append-drop, length-take-le, ◌+◌, ◌<◌, ◌&&◌, ◌∷◌, ◌++◌}
use Rattle.std.proofs.Math.Path.{ap}
use Rattle.std.proofs.lemmas.List.{map-append, length-map}
use Rattle.std.proofs.lemmas.Simd.{map-map}
use Rattle.definitions.specs.Basics.{ℕ, min, compare, Bool, true, false, option_get_or, is_some, List, [], map, length, take, replicate, sort}
use Rattle.definitions.specs.Syntax.{Patient, Region}
use Rattle.definitions.specs.Plans.{bed_of, plans, total, allowed, Row, then_by, compare_rows, list_of}
use Rattle.definitions.specs.Questions.{plan_allowed}
use Rattle.definitions.specs.Joining.{patient_after, joined_region, compare_pairs, paired_row, all_pairs, first_pairs}
use Rattle.lists.specs.Tests.{both, join, same_answer}
use Rattle.lists.specs.Members.{◌∈◌, ◌⊆◌, Distinct}
use Rattle.lists.specs.Every.{any_in, any_out}
use Rattle.lists.specs.Maps.{map_take, map_cross}
use Rattle.ranking.specs.First.{First, first_iff, sorted_distinct}
use Rattle.ranking.proofs.First.{first_unique}
use Rattle.ranking.specs.Mapped.{sort_map}
use Rattle.ranking.specs.Combining.{Combined, Rising, Injective, cross, cross_enumerates}
use Rattle.ranking.proofs.Combining.{first_cross}
use Rattle.theorems.specs.List.{row_order, Fits, Allowed, by_beds}
use Rattle.theorems.proofs.List.{plans_enumerate, list_first}
use Rattle.theorems.specs.Interleaving.{Interleaved, done, marked, unmarked, unweave, rising_marked, rising_unmarked, fits_apart, fits_together}
use Rattle.theorems.specs.Isolation.{fits_length}
use Rattle.theorems.specs.Sums.{plus, Halves, halves}
use Rattle.theorems.specs.Accepted.{Accepted, some_of}
use Rattle.partial_rows.specs.Appending.{compare_append}
use Rattle.joining.specs.Joined.{joined_plans, joined_patients_lem, joined_many}
use Rattle.joining.specs.Totals.{first_beds, second_beds, joined_total}

-- One list behind the other is one way to interleave them.
marks : ℕ → ℕ → List Bool
marks n k = replicate n true ++ replicate k false

appended : (xs ys : List ℕ) → Interleaved (marks (length xs) (length ys)) xs ys (xs ++ ys)
unfolding marks
appended [] [] = done
appended [] (y ∷ ys) = unmarked y (appended [] ys)
appended (x ∷ xs) ys = marked x (appended xs ys)

-- The counts of beds of a region's patients; a row has as many beds as there are patients.
abbrev counts : Region → List ℕ
counts x = map (λ p. p.bed_count) x.patients

pub row_long : (x : Region) (w : Row) → Allowed x w → length w.beds ≡ length x.patients
row_long x w p = sym (fits_length (counts x) w.beds p.fits) ∙ length-map x.patients (λ p. p.bed_count)

-- Question 13 asks for a row that is allowed.
allowed_row : (x : Region) → plan_allowed x ≡ true → (w : Row) × Allowed x w
unfolding plan_allowed
allowed_row x e =
    let (plan, k, some_total) = any_out (allowed x) (plans x) e in
    (record { cost = option_get_or (total x plan) 0; beds = plan }, record { fits = (plans_enumerate (counts x)).only plan k; priced = some_of (total x plan) 0 some_total })

row_allowed : (x : Region) (w : Row) → Allowed x w → plan_allowed x ≡ true
unfolding plan_allowed
row_allowed x w p = any_in (allowed x) (plans x) ((plans_enumerate (counts x)).every w.beds p.fits) (ap is_some p.priced)

-- The rows of j are the rows of x, each put together with each row of y; the beds of the row of x stand there from v on.
pub record Half (v : ℕ) (x y j : Region) : Type 0 where
  pub combine : Row → Row → Row
  pub apart : Allowed j ⊆ Combined combine (Allowed x) (Allowed y)
  pub together : Combined combine (Allowed x) (Allowed y) ⊆ Allowed j
  pub rising : Rising row_order row_order row_order combine (Allowed x) (Allowed y)
  pub beds : (p q : Row) → Allowed x p → Allowed y q → (k : ℕ) → k < length x.patients → bed_of (combine p q).beds (v + k) ≡ bed_of p.beds k

-- Left and right may change places.
turned : {combine : Row → Row → Row} {P Q : Row → Type 0} {z : Row} → Combined combine P Q z → Combined (λ w v. combine v w) Q P z
turned c = record { left = c.right; right = c.left; in_left = c.in_right; in_right = c.in_left; is = c.is }

module _ (r s : Region) (a : Accepted r) (b : Accepted s) where
  abbrev joined : Region
  joined = joined_region r s

  joined_counts : counts joined ≡ counts r ++ counts s
  joined_counts =
      ap (map (λ p. p.bed_count)) (joined_patients_lem r s) ∙ map-append (λ p. p.bed_count) r.patients _
      ∙ ap (λ (l : List ℕ). counts r ++ l) (map-map (λ (p : Patient). p.bed_count) (patient_after (length r.patients)) s.patients)

  -- ---- what the joined region allows is a row of each, put together

  abbrev combine : Row → Row → Row
  combine v w = paired_row (v, w)

  abbrev Parts : List ℕ → List ℕ → List ℕ → Type 0
  Parts = Interleaved (marks (length r.patients) (length s.patients))

  parts : (xs ys : List ℕ) → length xs ≡ length r.patients → length ys ≡ length s.patients → Parts xs ys (xs ++ ys)
  parts xs ys n k = rw (← n, ← k) (appended xs ys)

  counts_parts : Parts (counts r) (counts s) (counts joined)
  counts_parts = rw joined_counts (parts (counts r) (counts s) (length-map r.patients _) (length-map s.patients _))

  combined : (v w : Row) → Allowed r v → Allowed s w → Parts v.beds w.beds (v.beds ++ w.beds)
  combined v w p q = parts v.beds w.beds (row_long r v p) (row_long s w q)

  row_together : (z : Row) → Combined combine (Allowed r) (Allowed s) z → Allowed joined z
  row_together z c = rw c.is (go c.left c.right c.in_left c.in_right)
    where
      go : (v w : Row) → Allowed r v → Allowed s w → Allowed joined (combine v w)
      go v w p q = record {
        fits = fits_together counts_parts (combined v w p q) p.fits q.fits;
        priced = joined_total r s a b v.beds w.beds (row_long r v p) ∙ ap₂ plus p.priced q.priced;
      }

  row_apart : (z : Row) → Allowed joined z → Combined combine (Allowed r) (Allowed s) z
  row_apart z p = record {
    left = record { cost = prices.x; beds = xs };
    right = record { cost = prices.y; beds = ys };
    in_left = record { fits = fits.0; priced = prices.left };
    in_right = record { fits = fits.1; priced = prices.right };
    is = λ i. record { cost = prices.whole i; beds = sym whole i };
  }
    where
      v : ℕ
      v = length r.patients

      xs : List ℕ
      xs = take v z.beds

      ys : List ℕ
      ys = drop v z.beds

      whole : xs ++ ys ≡ z.beds
      whole = take-append-drop v z.beds

      long : length z.beds ≡ v + length s.patients
      long = row_long joined z p ∙ joined_many r s

      front : length xs ≡ v
      front = length-take-le v z.beds (omega (arith, long))

      fits : Fits (counts r) xs × Fits (counts s) ys
      fits = fits_apart counts_parts (parts xs ys front (omega (arith, length-drop v z.beds, long))) (subst (Fits (counts joined)) (sym whole) p.fits)

      prices : Halves (total r xs) (total s ys) z.cost
      prices = halves (total r xs) (total s ys) z.cost (sym (joined_total r s a b xs ys front) ∙ ap (total joined) whole ∙ p.priced)

  -- A larger row of either makes a larger row, and the two rows can be read off it.
  rising : Rising row_order row_order row_order combine (Allowed r) (Allowed s)
  rising = record { in_left = in_left_lem; in_right = in_right_lem }
    where
      in_left_lem : (v x w : Row) → Allowed r v → Allowed r x → Allowed s w → row_order.Lt v x → row_order.Lt (combine v w) (combine x w)
      in_left_lem v x w p o q (inl t) = inl (omega arith)
      in_left_lem v x w p o q (inr t) = inr (omega (arith, t.0), rising_marked (combined v w p q) (combined x w o q) t.1)

      in_right_lem : (v w y : Row) → Allowed r v → Allowed s w → Allowed s y → row_order.Lt w y → row_order.Lt (combine v w) (combine v y)
      in_right_lem v w y p q o (inl t) = inl (omega arith)
      in_right_lem v w y p q o (inr t) = inr (omega (arith, t.0), rising_unmarked (combined v w p q) (combined v y p o) t.1)

  injective : Injective combine (Allowed r) (Allowed s)
  injective v x w y p t q u e =
      let (left, right) = unweave (combined v w p q) (subst (Parts x.beds y.beds) (ap (λ (z : Row). z.beds) (sym e)) (combined x y t u)) in
      (by_beds r p t left, by_beds s q u right)

  -- So its rows are rows of the first, each with a row of the second, and rows of the second, each with a row of the first.
  pub first_half : Half 0 r s (joined_region r s)
  first_half = record {
    combine = combine;
    apart = row_apart;
    together = row_together;
    rising = rising;
    beds = λ v w p q. first_beds r v.beds w.beds (row_long r v p);
  }

  pub second_half : Half (length r.patients) s r (joined_region r s)
  second_half = record {
    combine = λ w v. combine v w;
    apart = λ z p. turned (row_apart z p);
    together = λ z c. row_together z (turned c);
    rising = record { in_left = λ w y v q o p. rising.in_right v w y p q o; in_right = λ w v x q p o. rising.in_left v x w p o q };
    beds = λ w v q p k h. second_beds r v.beds w.beds (row_long r v p) k;
  }

  -- ---- pairs of a row from each list

  -- They compare as the rows that they make.
  compare_paired : (p q : Row × Row) → Allowed r p.0 → Allowed r q.0 → compare_rows (paired_row p) (paired_row q) ≡ compare_pairs p q
  compare_paired p q h k = ap (then_by (compare (paired_row p).cost (paired_row q).cost))
      (compare_append p.0.beds q.0.beds p.1.beds q.1.beds (row_long r p.0 h ∙ sym (row_long r q.0 k)))

  pair_allowed : (p : Row × Row) → p ∈ all_pairs (list_of r) (list_of s) → Allowed r p.0
  pair_allowed p k = rw made.is ((list_first r).sound made.in_left)
    where
      pair : Row → Row → Row × Row
      pair v w = (v, w)

      once : (x : Region) → Distinct (list_of x)
      once x = sorted_distinct row_order (list_of x) (list_first x).sorted

      made : Combined pair (λ v. v ∈ list_of r) (λ w. w ∈ list_of s) p
      made = (cross_enumerates pair {xs = list_of r} {ys = list_of s} (λ v x w y i j k l e. (ap (λ q. q.0) e, ap (λ q. q.1) e)) (once r) (once s)).only p k

  rows_paired : (m : ℕ) → first_pairs m (list_of r) (list_of s) ≡ take m (sort compare_rows (cross combine (list_of r) (list_of s)))
  unfolding first_pairs
  rows_paired m =
      map_take paired_row m (sort compare_pairs (all_pairs (list_of r) (list_of s)))
      ∙ ap (take m)
      (sort_map compare_pairs compare_rows paired_row (λ p. Allowed r p.0) compare_paired (all_pairs (list_of r) (list_of s)) pair_allowed
      ∙ ap (sort compare_rows) (map_cross paired_row (λ v w. (v, w)) (list_of r) (list_of s)))

  -- Its list.
  pub joined_list_lem : list_of (joined_region r s) ≡ first_pairs (min r.plans_wanted s.plans_wanted) (list_of r) (list_of s)
  joined_list_lem =
      first_unique (subst (λ m. First row_order m (Allowed joined) (list_of joined)) (joined_plans r s) (list_first joined))
      (first_iff row_together row_apart (first_cross rising injective (omega arith) (omega arith) (list_first r) (list_first s)))
      ∙ sym (rows_paired (min r.plans_wanted s.plans_wanted))

  -- If either has no allowed plan, neither has the joined region.
  pub joined_none : plan_allowed (joined_region r s) ≡ (plan_allowed r && plan_allowed s)
  joined_none = same_answer
      (λ e. let (z, h) = allowed_row joined e in let c = row_apart z h in join (row_allowed r c.left c.in_left) (row_allowed s c.right c.in_right))
      (λ e.
      let (first, second) = both (plan_allowed r) e in
      let (v, p) = allowed_row r first in
      let (w, q) = allowed_row s second in
      row_allowed joined (combine v w) (row_together (combine v w) (record { left = v; right = w; in_left = p; in_right = q; is = refl })))
