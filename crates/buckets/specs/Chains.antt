-- When a held term is right, and what leaves a chain of terms as it is.
use Rattle.std.proofs.Math.Path.{sym, ap, ap₂, subst}
use Rattle.std.proofs.Common.{◌∙◌, le_trans, arith, ◌+◌, ◌-◌, ◌*◌, ◌<◌, ◌≡◌, ◌∷◌}
use Rattle.std.specs.Prelude.{◌≤◌, set}
use Rattle.std.proofs.Math.Decide.{dec_lt}
use borrow.Author.Tests.{eqb-true}
use Rattle.std.proofs.Math.ListN.{get_or-eq_default}
use Rattle.definitions.specs.Basics.{ℕ, zero, suc, refl, true, cond, List, [], map, length, get_or, eqb, numbers_from, sum, product}
use Rattle.definitions.specs.Syntax.{Table, Region, patient_at}
use Rattle.definitions.specs.Plans.{Plan, bed_of, entry_for}
use Rattle.lists.specs.Members.{◌∈◌, get_d_in}
use Rattle.theorems.specs.Accepted.{Accepted, TableRight, member_at_lem, table_right, patients_few, entries_few, beds_some, entry_small}
use Rattle.theorems.specs.EntryPlaces.{stride_highest}
use Rattle.theorems.proofs.EntryPlaces.{place_moved}
use Rattle.held_region.specs.Stores.{table_at, start_of, start_next, start_most, HasEntries}
use Rattle.bucket_words.specs.Words.{no_member, no_term, start_at, next_at, member_at, stride_at}
use Rattle.bucket_words.specs.Kept.{kept_at}
use Rattle.buckets.specs.Terms.{Fitting, highest, place_at, Term, Chain}
use Rattle.buckets.specs.Places.{stride_of, low_of, product_more, place_of, place_strides, place_bound, place_low}
use Rattle.buckets.specs.Highest.{in_bucket, highest_in, none_higher}
use Rattle.bucket_words.specs.declared.TableTerm.{TableTerm}

sum_same : (f g : ℕ → ℕ) (a n : ℕ) → ((j : ℕ) → j < a + n → f j ≡ g j) → sum (map f (numbers_from a n)) ≡ sum (map g (numbers_from a n))
sum_same f g a zero same = refl
sum_same f g a (suc n) same = ap₂ (λ x y. x + y) (same a (omega arith)) (sum_same f g (suc a) n (λ j h. same j (omega arith)))

-- A stride is at most the product of all counts, where none is 0.
stride_most : (count : ℕ → ℕ) (members : List ℕ) → ((j : ℕ) → j < length members → 1 ≤ count (get_or members j 0)) → (j : ℕ)
    → stride_of count members j ≤ product (map count members)
unfolding stride_of
stride_most count [] each j = omega arith
stride_most count (s ∷ members) each zero = product_more count s members (each 0 (omega arith))
stride_most count (s ∷ members) each (suc j) =
    le_trans (stride_most count members (λ i l. each (suc i) (omega arith)) j) (product_more count s members (each 0 (omega arith)))

-- The term of a table, from what is held of it.
module _ (r : Region) (a : Accepted r) (i : ℕ) (h : i < length r.tables) (terms : List TableTerm) where
  abbrev t : Table
  t = table_at r i

  abbrev count : ℕ → ℕ
  count s = (patient_at r s).bed_count

  there : t ∈ r.tables
  there = get_d_in r.tables i _ h

  right : TableRight r t
  right = table_right r a there

  -- The entries begin and end in the store.
  ends : start_of r.tables i + length t.entries ≤ 4096
  ends = omega (arith, start_next r.tables i, start_most r.tables (suc i), entries_few r a)

  module _ (starts : start_at terms i ≡ start_of r.tables i) (members : (j : ℕ) → j < 4 → member_at terms i j ≡ get_or t.members j 0)
      (strides : (j : ℕ) → j < 4 → stride_at terms i j ≡ stride_of count t.members j) where
    places : (plan : Plan) → place_at terms i plan ≡ start_of r.tables i + place_of count (bed_of plan) t.members
    unfolding place_at
    places plan =
        ap₂ (λ n m. n + m) starts
        (sum_same _ (λ j. bed_of plan (get_or t.members j 0) * stride_of count t.members j) 0 4
        (λ j l. ap₂ (λ s n. bed_of plan s * n) (members j (omega arith)) (strides j (omega arith)))
        ∙ sym (place_strides count (bed_of plan) t.members 4 right.few))

    bounded : (plan : Plan) → Fitting r plan → place_of count (bed_of plan) t.members < length t.entries
    bounded plan fits = omega (arith, right.counted, place_bound count (bed_of plan) t.members (λ j l. fits _ (member_at_lem right j l)))

    -- The kept place is what all members but the last make.
    kept : (plan : Plan) → place_of count (bed_of plan) t.members ≡ kept_at terms i plan + bed_of plan (get_or t.members (length t.members - 1) 0)
    unfolding kept_at
    kept plan =
        place_low count (bed_of plan) t.members right.some (λ j l. beds_some r a _ (member_at_lem right j l)) 3 right.few
        ∙ ap (λ n. n + bed_of plan (get_or t.members (length t.members - 1) 0))
        (sym (sum_same _ (λ j. bed_of plan (get_or t.members j 0) * low_of count t.members j) 0 3
        (λ j l. ap₂ (λ s n. bed_of plan s * n) (members j (omega arith)) (ap₂ (λ n m. cond (eqb n 0) 0 m) (strides (suc j) (omega arith)) (strides j (omega arith))))))

    pub term_right : (store : List ℕ) → HasEntries store r.tables → Term r store terms i t
    unfolding entry_for
    term_right store stands =
        record {
          known = λ j l. omega (arith, members j l, member_small j (dec_lt j (length t.members)));
          near = λ j l. omega (arith, strides j l, stride_most count t.members (λ q m. beds_some r a _ (member_at_lem right q m)) j, right.counted, ends);
          starts = omega (arith, starts, ends);
          inside = λ plan fits. omega (arith, places plan, bounded plan fits, ends);
          finds = λ plan fits. ap (λ n. get_or store n 0) (places plan) ∙ stands i _ h (bounded plan fits);
          small = entry_small r a there;
          place = λ plan. omega (arith, places plan, starts);
          beside = λ s bed plan top inside.
              let same = ap (bed_of plan) (top_last s top) in
              let one = stride_highest r t.members s right.rising (highest_in s t top) (none_higher s t top) in
              let moved = rw one at (place_moved r plan t s bed right.rising inside) in
              omega (arith, places (set plan s bed), starts, kept plan, same, moved);
        }
      where
        top_last : (s : ℕ) → highest s t ≡ true → s ≡ get_or t.members (length t.members - 1) 0
        top_last s top = eqb-true _ _ (sym (in_bucket s t right.some right.rising) ∙ top)

        member_small : (j : ℕ) → Dec (j < length t.members) → get_or t.members j 0 < 32
        member_small j (yes l) = omega (arith, member_at_lem right j l, patients_few r a)
        member_small j (no l) = omega (arith, get_or-eq_default t.members 0 {n = j} (omega arith))

-- Terms that are held the same from a place on stay as they are.
module _ (r : Region) (store : List ℕ) (before after : List TableTerm) where
  pub term_kept : (k : ℕ) (t : Table) → get_or after k no_term ≡ get_or before k no_term → Term r store before k t → Term r store after k t
  unfolding place_at kept_at
  term_kept k t same term =
      record {
        known = λ j l. omega (arith, term.known j l, members j);
        near = λ j l. omega (arith, term.near j l, strides j);
        starts = omega (arith, term.starts, starts);
        inside = λ plan fits. omega (arith, term.inside plan fits, places plan);
        finds = λ plan fits. ap (λ n. get_or store n 0) (places plan) ∙ term.finds plan fits;
        small = term.small;
        place = λ plan. omega (arith, term.place plan, places plan, starts);
        beside = λ s bed plan top inside. omega (arith, term.beside s bed plan top inside, places (set plan s bed), starts, kepts plan);
      }
    where
      starts : start_at after k ≡ start_at before k
      starts = ap (λ (held : TableTerm). held.start) same

      members : (j : ℕ) → member_at after k j ≡ member_at before k j
      members j = ap (λ (held : TableTerm). (get_or held.members j no_member).patient) same

      strides : (j : ℕ) → stride_at after k j ≡ stride_at before k j
      strides j = ap (λ (held : TableTerm). (get_or held.members j no_member).stride) same

      places : (plan : Plan) → place_at after k plan ≡ place_at before k plan
      places plan = ap₂ (λ n m. n + m) starts (sum_same _ _ 0 4 (λ j l. ap₂ (λ s n. bed_of plan s * n) (members j) (strides j)))

      kepts : (plan : Plan) → kept_at after k plan ≡ kept_at before k plan
      kepts plan = sum_same _ _ 0 3 (λ j l. ap₂ (λ s n. bed_of plan s * n) (members j) (ap₂ (λ n m. cond (eqb n 0) 0 m) (strides (suc j)) (strides j)))

  pub chain_kept : (low p : ℕ) (tables : List Table) → ((q : ℕ) → low ≤ q → get_or after q no_term ≡ get_or before q no_term)
      → Chain r store before low p tables → Chain r store after low p tables
  unfolding Chain
  chain_kept low p [] same chain = chain
  chain_kept low p (t ∷ tables) same (above, inside, term, rest) = (
    above,
    inside,
    term_kept p t (same p (omega arith)) term,
    subst (λ n. Chain r store after (suc p) n tables) (sym (ap (λ (held : TableTerm). held.next) (same p (omega arith)))) (chain_kept (suc p) (next_at before p) tables (λ q h. same q (omega arith)) rest),
  )

-- A chain's low bound may be a lower one.
pub chain_lower : (r : Region) (store : List ℕ) (terms : List TableTerm) (low lower p : ℕ) (tables : List Table) → lower ≤ low
    → Chain r store terms low p tables → Chain r store terms lower p tables
unfolding Chain
chain_lower r store terms low lower p [] h chain = chain
chain_lower r store terms low lower p (t ∷ tables) h (above, inside, term, rest) = (omega arith, inside, term, rest)
