-- A walk that places the lowest patient of a set first: the tables that a bed decides are the patient's bucket, and the buckets' least numbers bound the cost.
use Rattle.std.specs.Prelude.{◌≡◌, refl, ◌≤◌}
use Rattle.std.proofs.Common.{sym, ◌∙◌, true≢false, arith, ◌+◌, ◌<◌, ◌&&◌, ◌||◌, ◌∷◌}
use Rattle.std.proofs.Math.Path.{ap}
use borrow.Author.Tests.{ltb-true, lt-ltb, eqb-true, eqb-false, eq-eqb, ne_eqb}
use Rattle.definitions.specs.Basics.{ℕ, Bool, true, false, not, List, [], map, sum, eqb, ltb, every, every_two, contains}
use Rattle.definitions.specs.Syntax.{Table, Region}
use Rattle.definitions.specs.Plans.{Plan, cost_over, constraints, Row}
use Rattle.lists.specs.Tests.{both, same_answer}
use Rattle.lists.specs.Members.{◌∈◌}
use Rattle.lists.specs.Every.{any_in, any_out, every_contains}
use Rattle.lists.specs.Keep.{keep_same}
use Rattle.partial_rows.specs.Sets.{Patients, only, Part, first, second, neither, Splits, splits_one, in_first_lem, not_both, swap_parts}
use Rattle.partial_rows.specs.Rows.{holds, decided_tables, LowerBound}
use Rattle.partial_rows.specs.Bounds.{least_sum, bound_zero}
use Rattle.partial_rows.specs.Adding.{add_beds}
use Rattle.partial_rows.proofs.Splitting.{row_apart}
use Rattle.buckets.specs.Terms.{bucket_of, least_in}
use Rattle.search.specs.Decided.{decided_at, decided_tables_lem}

-- Of a table with a member in the set, every higher member is in it.
abbrev pub Upward : Region → Patients → Type 0
Upward r D = (t : Table) → t ∈ constraints r → (s : ℕ) → s ∈ t.members → D s ≡ true → (q : ℕ) → q ∈ t.members → s < q → D q ≡ true

module _ (r : Region) {D F : Patients} (s : ℕ) (split : Splits D (only s) F) (lowest : (q : ℕ) → D q ≡ true → s ≤ q) (upward : Upward r D) where
  mine : D s ≡ true
  mine = in_first_lem split s (eq-eqb s s refl)

  others_higher : (q : ℕ) → F q ≡ true → s < q
  others_higher q e =
      let le : s ≤ q = lowest q (in_first_lem (swap_parts split) q e) in
      let apart : s ≡ q → ⊥ = eqb-false s q (not_both (swap_parts split) q e) in
      omega (arith, apart)

  higher_left : (q : ℕ) → D q ≡ true → s < q → F q ≡ true
  higher_left q e h = go (split q) e (ne_eqb s q (λ same. omega arith))
    where
      go : {a b c : Bool} → Part a b c → a ≡ true → b ≡ false → c ≡ true
      go first d f = absurd (true≢false f)
      go second d f = refl
      go neither d f = d

  -- Where s gets its bed, what it is the highest member of is decided and nothing else.
  pub bucket_decided : decided_tables r (only s) F ≡ decided_at r s
  unfolding decided_tables decided_at
  bucket_decided = keep_same _ _ (constraints r) (λ t k. go t k (holds (only s) t) refl)
    where
      same : (t : Table) → t ∈ constraints r → holds (only s) t ≡ true → holds F t ≡ holds (ltb s) t
      same t k e =
          let (a, i, is) = any_out (only s) t.members e in
          let here : s ∈ t.members = rw (eqb-true s a is) i in
          same_answer
          (λ f. let (q, j, g) = any_out F t.members f in any_in (ltb s) t.members j (lt-ltb s q (others_higher q g)))
          (λ f. let (q, j, g) = any_out (ltb s) t.members f in let l = ltb-true s q g in any_in F t.members j (higher_left q (upward t k s here mine q j l) l))

      go : (t : Table) → t ∈ constraints r → (b : Bool) → holds (only s) t ≡ b → (b && not (holds F t)) ≡ (b && not (holds (ltb s) t))
      go t k true e = ap not (same t k e)
      go t k false e = refl

  -- Without its lowest patient the set is upward still.
  pub upward_rest : Upward r F
  upward_rest t k a i e q j h =
      let l : s < a = others_higher a e in
      higher_left q (upward t k a i (in_first_lem (swap_parts split) a e) q j h) (omega arith)

  -- A row of the set costs at least the least numbers of the bucket and what the rest costs at least.
  pub bound_more : (placed : Plan) (n : ℕ) → ((beds : Plan) → LowerBound r F beds n) → LowerBound r D placed (least_in r s + n)
  unfolding least_in
  bound_more placed n rest w row =
      let (u, step, branch) = row_apart r split placed w row in
      let first_cost = least_sum r _ (bucket_of r s) u.cost (decided_tables_lem r s (add_beds placed u.beds) u.cost (ap (λ l. cost_over l r (add_beds placed u.beds)) (sym bucket_decided) ∙ step.priced)) in
      let total : w.cost ≡ u.cost + branch.rest.cost = ap (λ (z : Row). z.cost) branch.is in
      omega (arith, first_cost, rest (add_beds placed u.beds) branch.rest branch.in_rest)

-- A set that is given by a rising list: its first is the lowest, and the others are the rest.
module _ (D : Patients) (s : ℕ) (l : List ℕ) (is : (q : ℕ) → D q ≡ contains (s ∷ l) q) (up : every_two ltb (s ∷ l) ≡ true) where
  later : (q : ℕ) → contains l q ≡ true → s < q
  later q e = ltb-true s q (every_contains (ltb s) l q (both (every (ltb s) l) up).0 e)

  pub list_split : Splits D (only s) (contains l)
  list_split = splits_one D (contains l) s (is s ∙ ap (λ b. b || contains l s) (eq-eqb s s refl)) (λ q. rw (is q) (go q (eqb q s) refl (contains l q) refl))
    where
      go : (q : ℕ) (a : Bool) → eqb q s ≡ a → (b : Bool) → contains l q ≡ b → b ≡ ((a || b) && not (eqb s q))
      go q true e true f = absurd (omega (arith, later q f, eqb-true q s e))
      go q true e false f = rw (eq-eqb s q (sym (eqb-true q s e))) refl
      go q false e true f = rw (ne_eqb s q (λ z. eqb-false q s e (sym z))) refl
      go q false e false f = refl

  pub list_lowest : (q : ℕ) → D q ≡ true → s ≤ q
  list_lowest q e = go (eqb q s) refl (sym (is q) ∙ e)
    where
      go : (b : Bool) → eqb q s ≡ b → (b || contains l q) ≡ true → s ≤ q
      go true h k = omega (arith, eqb-true q s h)
      go false h k = omega (arith, later q k)

-- So the least numbers of the buckets of a set's patients bound the cost of its rows.
pub bound_members : (r : Region) (l : List ℕ) (D : Patients) → ((q : ℕ) → D q ≡ contains l q) → every_two ltb l ≡ true → Upward r D
    → (placed : Plan) → LowerBound r D placed (sum (map (least_in r) l))
bound_members r [] D is up upward placed = bound_zero r D placed
bound_members r (s ∷ l) D is up upward placed =
    let split = list_split D s l is up in
    let lowest = list_lowest D s l is up in
    bound_more r s split lowest upward placed (sum (map (least_in r) l))
    (bound_members r l (contains l) (λ q. refl) (both (every (ltb s) l) up).1 (upward_rest r s split lowest upward))
