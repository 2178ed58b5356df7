-- Ancestors, where each parent has a smaller number than the patient's own: parent by parent, and that those of one patient are a chain.
use Rattle.std.specs.Prelude.{◌≡◌, ◌⊎◌, ◌≤◌}
use Rattle.std.proofs.Math.Path.{refl, ap}
use Rattle.std.proofs.Common.{sym, subst, ◌∙◌, inl, inr, arith, ◌<◌, ◌∷◌}
use Rattle.std.proofs.Math.Option.{some-injective}
use Rattle.std.proofs.Math.Bool.{and-eq-true_iff}
use borrow.Author.Tests.{ltb-true, lt-ltb}
use Rattle.lists.specs.Members.{◌∈◌, here, there, here_or_there, none_in_nil}
use Rattle.lists.specs.Every.{every_in, every_weaken, every_contains}
use Rattle.definitions.specs.Basics.{ℕ, zero, suc, Bool, true, false, Option, none, some, List, [], length, ltb, every, contains}
use Rattle.definitions.specs.Syntax.{Region, patient_at}
use Rattle.definitions.specs.Questions.{parents_smaller, following, ancestors}
use Rattle.theorems.specs.Accepted.{parent_below}

module _ (r : Region) (smaller : parents_smaller r ≡ true) where
  -- As many steps as the number are enough.
  enough : (n s : ℕ) → s ≤ n → (o : Option ℕ) → (patient_at r s).parent ≡ o → following r n o ≡ following r (suc n) o
  unfolding following
  enough zero s h none e = refl
  enough zero s h (some p) e = absurd (omega (arith, (parent_below r smaller s p e).1))
  enough (suc n) s h none e = refl
  enough (suc n) s h (some p) e = ap (λ l. p ∷ l) (enough n p (omega (arith, (parent_below r smaller s p e).1)) (patient_at r p).parent refl)

  -- A root has no ancestors; another patient has its parent, and the parent's.
  pub ancestors_root : (s : ℕ) → (patient_at r s).parent ≡ none → ancestors r s ≡ []
  unfolding ancestors following
  ancestors_root s e = ap (following r (length r.patients)) e ∙ nobody (length r.patients)
    where
      nobody : (n : ℕ) → following r n none ≡ []
      nobody zero = refl
      nobody (suc n) = refl

  pub ancestors_next : (s p : ℕ) → (patient_at r s).parent ≡ some p → ancestors r s ≡ p ∷ ancestors r p
  unfolding ancestors following
  ancestors_next s p e = ap (following r (length r.patients)) e ∙ go (length r.patients) (parent_below r smaller s p e).0
    where
      go : (n : ℕ) → s < n → following r n (some p) ≡ p ∷ following r n (patient_at r p).parent
      go zero l = absurd (omega arith)
      go (suc n) l = ap (λ m. p ∷ m) (enough n p (omega (arith, (parent_below r smaller s p e).1)) (patient_at r p).parent refl)

  -- Ancestors have smaller numbers.
  all_smaller : (n s : ℕ) (o : Option ℕ) → (patient_at r s).parent ≡ o → every (λ q. ltb q s) (following r n o) ≡ true
  unfolding following
  all_smaller zero s o e = refl
  all_smaller (suc n) s none e = refl
  all_smaller (suc n) s (some p) e =
      let l : p < s = (parent_below r smaller s p e).1 in
      (and-eq-true_iff (ltb p s) _).1 (
        lt-ltb p s l,
        every_weaken (λ q. ltb q p) (λ q. ltb q s) (λ q m. lt-ltb q s (omega (arith, ltb-true q p m))) (following r n (patient_at r p).parent)
            (all_smaller n p (patient_at r p).parent refl),
      )

  pub no_later : (a b : ℕ) → a < b → contains (ancestors r a) b ≡ false
  unfolding ancestors
  no_later a b l = go (contains (ancestors r a) b) refl
    where
      go : (found : Bool) → contains (ancestors r a) b ≡ found → found ≡ false
      go false e = refl
      go true e = absurd (omega (arith, ltb-true b a (every_contains (λ q. ltb q a) (ancestors r a) b (all_smaller (length r.patients) a (patient_at r a).parent refl) e)))

  -- Who has an ancestor has a parent, and the ancestor is the parent or one of the parent's.
  pub ancestor_cases : (s : ℕ) {a : ℕ} → a ∈ ancestors r s → (p : ℕ) × ((patient_at r s).parent ≡ some p) × ((a ≡ p) ⊎ (a ∈ ancestors r p))
  ancestor_cases s {a} k = go (patient_at r s).parent refl
    where
      go : (o : Option ℕ) → (patient_at r s).parent ≡ o → (p : ℕ) × ((patient_at r s).parent ≡ some p) × ((a ≡ p) ⊎ (a ∈ ancestors r p))
      go none e = absurd (none_in_nil (subst (λ (l : List ℕ). a ∈ l) (ancestors_root s e) k))
      go (some p) e = (p, e, here_or_there (subst (λ (l : List ℕ). a ∈ l) (ancestors_next s p e) k))

  -- A parent is an ancestor, and so are the parent's ancestors.
  pub parent_in : (s p : ℕ) → (patient_at r s).parent ≡ some p → p ∈ ancestors r s
  parent_in s p e = rw (ancestors_next s p e) (here refl)

  pub above_parent : (s p : ℕ) {a : ℕ} → (patient_at r s).parent ≡ some p → a ∈ ancestors r p → a ∈ ancestors r s
  above_parent s p e k = rw (ancestors_next s p e) (there k)

  pub ancestor_smaller : (s : ℕ) {a : ℕ} → a ∈ ancestors r s → a < s
  unfolding ancestors
  ancestor_smaller s {a} k = ltb-true a s (every_in (λ q. ltb q s) (ancestors r s) (all_smaller (length r.patients) s (patient_at r s).parent refl) k)

  -- An ancestor's ancestors are the patient's too: up parent by parent, from a patient below n.
  through_below : (n s b : ℕ) {a : ℕ} → s < n → b ∈ ancestors r s → a ∈ ancestors r b → a ∈ ancestors r s
  through_below zero s b h k i = absurd (omega arith)
  through_below (suc n) s b h k i =
      let (p, e, is) = ancestor_cases s k in
      let up = (parent_below r smaller s p e).1 in
      elim is [ inl q ↦ above_parent s p e (rw q at i) | inr t ↦ above_parent s p e (through_below n p b (omega arith) t i) ]

  pub ancestor_through : (s b : ℕ) {a : ℕ} → b ∈ ancestors r s → a ∈ ancestors r b → a ∈ ancestors r s
  ancestor_through s b k i = through_below (suc s) s b (omega arith) k i

  chain_below : (n s b : ℕ) {a : ℕ} → s < n → a ∈ ancestors r s → b ∈ ancestors r s → a < b → a ∈ ancestors r b
  chain_below zero s b h i k l = absurd (omega arith)
  chain_below (suc n) s b {a} h i k l =
      let (p, e, first) = ancestor_cases s i in
      let (q, d, second) = ancestor_cases s k in
      let same : q ≡ p = some-injective q p (sym d ∙ e) in
      let up = (parent_below r smaller s p e).1 in
      elim first [
        | inl v ↦ absurd (elim second [ inl w ↦ omega arith | inr u ↦ omega (arith, ancestor_smaller q u) ])
        | inr t ↦ elim second [ inl w ↦ rw (w ∙ same) t | inr u ↦ chain_below n p b (omega arith) t (rw same at u) l ]
      ]

  -- Of two ancestors the smaller is an ancestor of the larger.
  pub ancestors_chain : (s b : ℕ) {a : ℕ} → a ∈ ancestors r s → b ∈ ancestors r s → a < b → a ∈ ancestors r b
  ancestors_chain s b i k l = chain_below (suc s) s b (omega arith) i k l

-- The parent is the highest ancestor, so regions with the same ancestors have the same parents.
pub same_parents : (r s : Region) → parents_smaller r ≡ true → parents_smaller s ≡ true → ((q a : ℕ) → a ∈ ancestors r q → a ∈ ancestors s q)
    → ((q a : ℕ) → a ∈ ancestors s q → a ∈ ancestors r q) → (q : ℕ) → (patient_at r q).parent ≡ (patient_at s q).parent
same_parents r s smaller_r smaller_s there_too back q = go (patient_at r q).parent (patient_at s q).parent refl refl
  where
    highest : (t : Region) → parents_smaller t ≡ true → (p a : ℕ) → (patient_at t q).parent ≡ some p → a ∈ ancestors t q → a ≤ p
    highest t smaller p a e k = elim (here_or_there (subst (λ (l : List ℕ). a ∈ l) (ancestors_next t smaller q p e) k)) [
      | inl same ↦ omega arith
      | inr above ↦ omega (arith, ancestor_smaller t smaller p above)
    ]

    go : (m n : Option ℕ) → (patient_at r q).parent ≡ m → (patient_at s q).parent ≡ n → m ≡ n
    go none none e f = refl
    go none (some p) e f = absurd (none_in_nil (subst (λ (l : List ℕ). p ∈ l) (ancestors_root r smaller_r q e) (back q p (parent_in s smaller_s q p f))))
    go (some p) none e f = absurd (none_in_nil (subst (λ (l : List ℕ). p ∈ l) (ancestors_root s smaller_s q f) (there_too q p (parent_in r smaller_r q p e))))
    go (some p) (some o) e f =
        let low = highest s smaller_s o p f (there_too q p (parent_in r smaller_r q p e)) in
        let high = highest r smaller_r p o e (back q o (parent_in s smaller_s q o f)) in
        ap some (omega arith)
