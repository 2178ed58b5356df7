-- The trees of the forest that the parents make: no table joins two of them, so their rows may be found one tree after another.
use Rattle.std.proofs.Common.{sym, ap, ◌∙◌, true≢false, arith, ltb-true, lt-ltb, le-ltb, eq-eqb, ne_eqb, ◌<◌, ◌≡◌, ◌||◌, ◌∷◌}
use Rattle.std.proofs.Math.Logic.{inl, inr}
use Rattle.std.proofs.Math.Bool.{not-eq-not}
use Rattle.std.proofs.Math.Option.{none-ne-some}
use Rattle.std.specs.Prelude.{◌≤◌}
use Rattle.definitions.specs.Basics.{ℕ, zero, suc, Ordering, refl, Bool, true, false, Option, none, some, List, [], length}
use Rattle.definitions.specs.Basics.{eqb, ltb}
use Rattle.definitions.specs.Syntax.{Table, Region, patient_at}
use Rattle.definitions.specs.Plans.{constraints}
use Rattle.definitions.specs.Questions.{following, ancestors}
use Rattle.lists.specs.Members.{◌∈◌, here_or_there, none_in_nil}
use Rattle.lists.specs.Every.{any_out}
use Rattle.ranking.specs.Orders.{View, before, equal, after, ℕ-view}
use Rattle.theorems.specs.Accepted.{Accepted, parent_below, constraint_related}
use Rattle.partial_rows.specs.Sets.{Patients, Part, first, second, neither, Splits}
use Rattle.partial_rows.specs.Rows.{Closed}
use Rattle.partial_rows.specs.Parts.{Apart}

-- The last of a chain that goes on from s.
abbrev last_from : ℕ → List ℕ → ℕ
last_from s [] = s
last_from s (p ∷ ps) = last_from p ps

-- The root of a patient: its last ancestor, or itself where it has none.
unfoldable pub root_of : Region → ℕ → ℕ
root_of region s = last_from s (ancestors region s)

-- The tree of a root; the patients whose roots are below k.
abbrev pub tree_of : Region → ℕ → Patients
tree_of region r s = eqb (root_of region s) r

abbrev pub roots_below : Region → ℕ → Patients
roots_below region k s = ltb (root_of region s) k

-- Following parents from s ends at r.
data Rooted (region : Region) (r : ℕ) : ℕ → Type 0 where
  top : {s : ℕ} → (patient_at region s).parent ≡ none → r ≡ s → Rooted region r s
  up : {s : ℕ} (p : ℕ) → (patient_at region s).parent ≡ some p → Rooted region r p → Rooted region r s

module _ {region : Region} where
  -- It ends at one patient.
  rooted_one : {r s q : ℕ} → Rooted region r s → Rooted region q s → r ≡ q
  rooted_one (top e h) (top d k) = h ∙ sym k
  rooted_one (top e h) (up p d k) = absurd (none-ne-some p (sym e ∙ d))
  rooted_one (up p e h) (top d k) = absurd (none-ne-some p (sym d ∙ e))
  rooted_one (up p e h) (up o d k) = let same : o ≡ p = cc in rooted_one h (rw same at k)

  -- The patients on the way end there too.
  rooted_on : {s r b : ℕ} (k : ℕ) → b ∈ following region k (patient_at region s).parent → Rooted region r s → Rooted region r b
  unfolding following
  rooted_on zero i h = absurd (none_in_nil i)
  rooted_on {s} {b} (suc k) i (top e h) = absurd (none_in_nil (rw e at i))
  rooted_on {s} {r} {b} (suc k) i (up p e h) = elim (here_or_there (rw e at i)) [ inl q ↦ rw q h | inr t ↦ rooted_on k t h ]

module _ (region : Region) (accepted : Accepted region) where
  -- Parents have smaller numbers, so as many steps as there are patients reach the root.
  rooted_after : (k s : ℕ) → ((p : ℕ) → (patient_at region s).parent ≡ some p → s ≤ k)
      → Rooted region (last_from s (following region k (patient_at region s).parent)) s
  unfolding following
  rooted_after zero s few = go (patient_at region s).parent refl
    where
      go : (o : Option ℕ) → (patient_at region s).parent ≡ o → Rooted region s s
      go none e = top e refl
      go (some p) e = absurd (omega (arith, few p e, (parent_below region accepted.parents_fit s p e).1))
  rooted_after (suc k) s few = go (patient_at region s).parent refl (rooted_after k)
    where
      go : (o : Option ℕ) → (patient_at region s).parent ≡ o
          → ((p : ℕ) → ((q : ℕ) → (patient_at region p).parent ≡ some q → p ≤ k) → Rooted region (last_from p (following region k (patient_at region p).parent)) p)
          → Rooted region (last_from s (following region (suc k) o)) s
      go none e ih = top e refl
      go (some p) e ih = up p e (ih p (λ q d. omega (arith, few p e, (parent_below region accepted.parents_fit s p e).1)))

  rooted : (s : ℕ) → Rooted region (root_of region s) s
  unfolding root_of ancestors
  rooted s = rooted_after (length region.patients) s (λ p e. omega (arith, (parent_below region accepted.parents_fit s p e).0))

  -- A patient has the root of its ancestors, and the root has no larger number.
  root_of_ancestor : (a b : ℕ) → b ∈ ancestors region a → root_of region a ≡ root_of region b
  unfolding ancestors
  root_of_ancestor a b i = rooted_one (rooted_on (length region.patients) i (rooted a)) (rooted b)

  root_at_most : (s : ℕ) → root_of region s ≤ s
  root_at_most s = go (rooted s)
    where
      go : {r s : ℕ} → Rooted region r s → r ≤ s
      go (top e h) = omega arith
      go {s} (up p e h) = omega (arith, go h, (parent_below region accepted.parents_fit s p e).1)

  -- ---- tables

  -- The members of a constraint have one root.
  one_root : (t : Table) → t ∈ constraints region → (a b : ℕ) → a ∈ t.members → b ∈ t.members → root_of region a ≡ root_of region b
  one_root t k a b i j = elim (constraint_related region accepted t k a b i j) [
    | inl e ↦ ap (root_of region) e
    | inr r ↦ elim r [ inl above ↦ root_of_ancestor a b above | inr above ↦ sym (root_of_ancestor b a above) ]
  ]

  -- So a set that is given by the roots is closed, whoever has a bed already.
  pub roots_closed : (f : ℕ → Bool) (bedded : Patients) → Closed region (λ s. f (root_of region s)) bedded
  roots_closed f bedded t k held s i =
      let (a, j, h) = any_out (λ s. f (root_of region s)) t.members held in
      ap (λ r. f r || bedded s) (one_root t k s a i j) ∙ ap (λ b. b || bedded s) h

  -- And no table joins sets that are told apart by the roots.
  pub roots_apart : (f g : ℕ → Bool) → ((r : ℕ) → f r ≡ true → g r ≡ false) → Apart region (λ s. f (root_of region s)) (λ s. g (root_of region s))
  roots_apart f g differ t k e = not-eq-not.0 (λ d.
      let (a, i, h) = any_out (λ s. f (root_of region s)) t.members e in
      let (b, j, q) = any_out (λ s. g (root_of region s)) t.members d in
      true≢false (sym q ∙ ap g (one_root t k b a j i) ∙ differ (root_of region a) h))

-- ---- one tree after another

-- The patients with roots up to k are those with roots below k and the tree of k.
pub trees_split : (region : Region) (k : ℕ) → Splits (roots_below region (suc k)) (roots_below region k) (tree_of region k)
trees_split region k s = go (root_of region s) (ℕ-view (root_of region s) k)
  where
    go : (r : ℕ) {o : Ordering} → View ◌<◌ r k o → Part (ltb r (suc k)) (ltb r k) (eqb r k)
    go r (before h) = rw (lt-ltb r (suc k) (omega arith), lt-ltb r k h, ne_eqb r k (λ e. omega arith)) first
    go r (equal e) = rw (lt-ltb r (suc k) (omega arith), le-ltb r k (omega arith), eq-eqb r k e) second
    go r (after h) = rw (le-ltb r (suc k) (omega arith), le-ltb r k (omega arith), ne_eqb r k (λ e. omega arith)) neither

-- Nobody's root is below 0.
pub roots_none : (region : Region) (s : ℕ) → roots_below region 0 s ≡ false
roots_none region s = le-ltb (root_of region s) 0 (omega arith)

module _ (region : Region) (accepted : Accepted region) where
  -- No table joins them.
  pub trees_apart : (k : ℕ) → Apart region (roots_below region k) (tree_of region k)
  trees_apart k = roots_apart region accepted (λ r. ltb r k) (λ r. eqb r k) (λ r h. ne_eqb r k (λ e. omega (arith, ltb-true r k h)))

  -- Every patient has one of the patients for its root.
  pub roots_all : (s : ℕ) → s < length region.patients → roots_below region (length region.patients) s ≡ true
  roots_all s h = lt-ltb (root_of region s) (length region.patients) (omega (arith, root_at_most region accepted s))
