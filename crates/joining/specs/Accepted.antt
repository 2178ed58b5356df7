-- Two accepted regions whose patients, tables and entries stay within 32, 64 and 4,096 are accepted when they are joined.
use Rattle.std.specs.Prelude.{◌≡◌, ◌≤◌}
use Rattle.std.proofs.Math.Path.{refl, ap, ap₂}
use Rattle.std.proofs.Common.{sym, ◌∙◌, arith, ◌+◌, ◌<◌, ◌&&◌, ◌||◌, ◌∷◌, ◌++◌}
use Rattle.std.proofs.lemmas.List.{length-map}
use borrow.Author.Tests.{lt-ltb, le-leb, eq-eqb}
use Rattle.definitions.specs.Basics.{ℕ, zero, suc, min, Bool, true, Option, none, some, option_map, none_or, List, map, length, eqb, ltb, product, every, every_two, contains}
use Rattle.definitions.specs.Limits.{patient_count, table_count, plans_wanted, member_count, limits, within}
use Rattle.definitions.specs.Syntax.{Patient, Table, Region, patient_numbers, patient_at, bed_counts}
use Rattle.definitions.specs.Questions.{counts_true, counts_within, patients_within, parents_smaller, members_right, entry_counts_right, entries_within, following, ancestors, members_related}
use Rattle.definitions.specs.Joining.{patient_after, table_after, joined_region, join_within}
use Rattle.lists.specs.Tests.{both, join}
use Rattle.lists.specs.Members.{◌∈◌}
use Rattle.lists.specs.Every.{every_in, every_all, every_append, every_same, every_map}
use Rattle.lists.specs.Below.{below_out}
use Rattle.theorems.specs.Accepted.{Accepted, at_least, at_most, parent_below, counts_within_lem, table_right}
use Rattle.joining.specs.Shifting.{shifted, every_two_map, ltb_shifted, contains_shifted}
use Rattle.joining.specs.Joined.{Stands, patients_after, joined_plans, joined_patients_lem, joined_tables_lem, joined_counted, joined_numbers, first_stands, second_stands}

-- ---- what the questions say of a region that stands in another

module _ {v : ℕ} {r j : Region} (stands : Stands v r j) (a : Accepted r) where
  -- 6: a parent's number is v more, as the patient's own.
  parent_after : (q : ℕ) → q < length r.patients → none_or (λ p. ltb p (v + q)) (patient_at j (v + q)).parent ≡ none_or (λ p. ltb p q) (patient_at r q).parent
  parent_after q h = ap (λ (x : Patient). none_or (λ p. ltb p (v + q)) x.parent) (stands.patient q h) ∙ go (patient_at r q).parent
    where
      go : (o : Option ℕ) → none_or (λ p. ltb p (v + q)) (option_map (λ p. v + p) o) ≡ none_or (λ p. ltb p q) o
      go none = refl
      go (some p) = ltb_shifted v p q

  -- 10: as many steps as the patient's number reach every ancestor, in both regions.
  following_after : (n k q : ℕ) → q ≤ n → q ≤ k → (o : Option ℕ) → (patient_at r q).parent ≡ o
      → following j n (option_map (λ p. v + p) o) ≡ shifted v (following r k o)
  unfolding following
  following_after zero zero q h l o e = refl
  following_after zero (suc k) q h l none e = refl
  following_after zero (suc k) q h l (some p) e = absurd (omega (arith, (parent_below r a.parents_fit q p e).1))
  following_after (suc n) zero q h l none e = refl
  following_after (suc n) zero q h l (some p) e = absurd (omega (arith, (parent_below r a.parents_fit q p e).1))
  following_after (suc n) (suc k) q h l none e = refl
  following_after (suc n) (suc k) q h l (some p) e =
      let (inside, smaller) = parent_below r a.parents_fit q p e in
      ap (λ (m : List ℕ). (v + p) ∷ m) (ap (λ (x : Patient). following j n x.parent) (stands.patient p (omega arith)) ∙ following_after n k p (omega arith) (omega arith) (patient_at r p).parent refl)

  pub ancestors_after : (q : ℕ) → q < length r.patients → ancestors j (v + q) ≡ shifted v (ancestors r q)
  unfolding ancestors
  ancestors_after q h =
      ap (λ (x : Patient). following j (length j.patients) x.parent) (stands.patient q h)
      ∙ following_after (length j.patients) (length r.patients) q (omega (arith, stands.room)) (omega arith) (patient_at r q).parent refl

  -- 7, 8 and 10 of a table: answered yes there, as in its own region.
  members_after : (t : Table) → t ∈ r.tables → length j.patients ≡ j.patient_count
      → (within member_count (length (shifted v t.members)) && every (λ s. ltb s j.patient_count) (shifted v t.members) && every_two ltb (shifted v t.members)) ≡ true
  unfolding members_right
  members_after t k counted =
      let right = table_right r a k in
      let few = (both (within member_count (length t.members)) (both (within member_count (length t.members) && _) (every_in _ r.tables a.members_fit k)).0).0 in
      join (join (ap (within member_count) (length-map t.members (λ s. v + s)) ∙ few)
      (every_map _ (λ s. v + s) t.members ∙ every_all _ t.members (λ s i. lt-ltb (v + s) j.patient_count (omega (arith, right.known i, stands.room)))))
      (every_two_map (λ s. v + s) ltb ltb t.members (λ x y i k. ltb_shifted v x y) ∙ right.rising)

  entries_after : (t : Table) → t ∈ r.tables → eqb (length t.entries) (product (bed_counts j (shifted v t.members))) ≡ true
  entries_after t k =
      let right = table_right r a k in
      eq-eqb _ _ (right.counted ∙ ap product (sym (patients_after stands (λ p. p.bed_count) t.members (λ s i. right.known i))))

  related_after : (t : Table) → t ∈ r.tables → every_two (λ x y. contains (ancestors j x) y || contains (ancestors j y) x) (shifted v t.members) ≡ true
  unfolding members_related
  related_after t k =
      let right = table_right r a k in
      let among : (x y : ℕ) → x ∈ t.members → contains (ancestors j (v + x)) (v + y) ≡ contains (ancestors r x) y =
      λ x y i. ap (λ l. contains l (v + y)) (ancestors_after x (right.known i)) ∙ contains_shifted v (ancestors r x) y in
      every_two_map (λ s. v + s) _ _ t.members (λ x y i l. ap₂ ◌||◌ (among x y i) (among y x l)) ∙ every_in _ r.tables a.related k

-- ---- the joined region

module _ (r s : Region) (a : Accepted r) (b : Accepted s) where
  -- All of what both regions give it pass a test, where a law over any region that stands in it says so.
  abbrev Fine : (ℕ → Region → Type 0) → Type 0
  Fine holds = (v : ℕ) (x : Region) → Stands v x (joined_region r s) → Accepted x → holds v x

  all_fine : {A : Type 0} (f : A → Bool) (given : ℕ → Region → List A) {l : List A} → l ≡ given 0 r ++ given (length r.patients) s
      → Fine (λ v x. every f (given v x) ≡ true) → every f l ≡ true
  all_fine f given is fine = ap (every f) is ∙ every_append f (given 0 r) (given (length r.patients) s) (fine 0 r (first_stands r s) a) (fine (length r.patients) s (second_stands r s) b)

  tables_fine : (f : Table → Bool) → Fine (λ v x. (t : Table) → t ∈ x.tables → f (table_after v t) ≡ true) → every f (joined_region r s).tables ≡ true
  tables_fine f fine = all_fine f (λ v x. map (table_after v) x.tables) (joined_tables_lem r s)
      (λ v x stands c. every_map f (table_after v) x.tables ∙ every_all _ x.tables (fine v x stands c))

  parents_fine : parents_smaller (joined_region r s) ≡ true
  unfolding parents_smaller
  parents_fine = all_fine _ (λ v x. shifted v (patient_numbers x)) (joined_numbers r s)
      (λ v x stands c. every_map _ (λ q. v + q) (patient_numbers x) ∙ every_same _ _ (patient_numbers x) (λ q k. parent_after stands c q (below_out _ q k)) ∙ c.parents_fit)

  -- m is the smaller of the two.
  plans_fine : within plans_wanted (min r.plans_wanted s.plans_wanted) ≡ true
  unfolding within
  plans_fine =
      let m = min r.plans_wanted s.plans_wanted in
      let first = (counts_within_lem r a).2 in
      let second = (counts_within_lem s b).2 in
      join (le-leb (limits plans_wanted).lowest m (omega (arith, at_least plans_wanted r.plans_wanted first, at_least plans_wanted s.plans_wanted second)))
      (le-leb m (limits plans_wanted).highest (omega (arith, at_most plans_wanted r.plans_wanted first)))

  pub joined_accepted : join_within r s ≡ true → Accepted (joined_region r s)
  unfolding join_within counts_true counts_within patients_within members_right entry_counts_right entries_within members_related
  joined_accepted fits =
      let joined = joined_region r s in
      let (counts, entries) = both (within patient_count joined.patient_count && within table_count joined.table_count) fits in
      let (patients, tables) = joined_counted r s in
      record {
        counted = join (eq-eqb _ _ patients) (eq-eqb _ _ tables);
        counts_fit = join counts (ap (within plans_wanted) (joined_plans r s) ∙ plans_fine);
        patients_fit = ap (every _) (joined_patients_lem r s) ∙ every_append _ r.patients _ a.patients_fit (every_map _ (patient_after _) s.patients ∙ b.patients_fit);
        parents_fit = parents_fine;
        members_fit = tables_fine _ (λ v x stands c t k. members_after stands c t k patients);
        entry_counts_fit = join (tables_fine _ (λ v x stands c. entries_after stands c)) entries;
        entries_fit = tables_fine _ (λ v x stands c t k. every_in _ x.tables c.entries_fit k);
        related = tables_fine _ (λ v x stands c. related_after stands c);
      }
