-- Rising lists of numbers: tests of any two, and what is kept of the numbers below n.
use Rattle.std.specs.Prelude.{◌≡◌, refl, ◌≤◌}
use Rattle.std.proofs.Common.{sym, ap, ap₂, ◌∙◌, arith, ltb-true, lt-ltb, le-ltb, le-leb, leb-true, eq-eqb, ne_eqb, ◌+◌, ◌<◌, ◌&&◌, ◌||◌, ◌∷◌}
use Rattle.std.proofs.Math.Decide.{dec_le}
use Rattle.definitions.specs.Basics.{ℕ, zero, suc, Bool, true, false, not, cond, List, [], eqb, leb, ltb, every, every_two, keep, contains, numbers_from, below}
use Rattle.lists.specs.Tests.{both, join}
use Rattle.lists.specs.Members.{◌∈◌, here, there}
use Rattle.lists.specs.Every.{every_in, every_all, every_both, every_weaken, every_same, every_contains}
use Rattle.lists.specs.Keep.{keep_all}
use Rattle.lists.specs.Below.{numbers_enumerate, same_keep}

module _ (g : ℕ → ℕ → Bool) where
  -- Of a rising list: a test of any two is a test of each with all that are lower.
  pub chain : (l : List ℕ) → every_two ltb l ≡ true → every (λ b. every (λ a. g a b) (keep (λ a. ltb a b) l)) l ≡ every_two g l
  chain [] up = refl
  chain (x ∷ l) up =
      let parts = both (every (ltb x) l) up in
      ap (λ b. b && every (λ b. every (λ a. g a b) (keep (λ a. ltb a b) (x ∷ l))) l) (lowest parts.0)
      ∙ every_same (λ b. every (λ a. g a b) (keep (λ a. ltb a b) (x ∷ l))) (λ b. g x b && every (λ a. g a b) (keep (λ a. ltb a b) l)) l (λ b k. later b (every_in (ltb x) l parts.0 k))
      ∙ every_both (g x) (λ b. every (λ a. g a b) (keep (λ a. ltb a b) l)) l
      ∙ ap (λ b. every (g x) l && b) (chain l parts.1)
    where
      none_kept : (m : List ℕ) → every (ltb x) m ≡ true → keep (λ a. ltb a x) m ≡ []
      none_kept [] all = refl
      none_kept (y ∷ m) all =
          let parts = both (ltb x y) all in
          ap (λ b. cond b (y ∷ keep (λ a. ltb a x) m) (keep (λ a. ltb a x) m)) (le-ltb y x (omega (arith, ltb-true x y parts.0))) ∙ none_kept m parts.1

      lowest : every (ltb x) l ≡ true → every (λ a. g a x) (keep (λ a. ltb a x) (x ∷ l)) ≡ true
      lowest all =
          ap (every (λ a. g a x))
          (ap (λ b. cond b (x ∷ keep (λ a. ltb a x) l) (keep (λ a. ltb a x) l)) (le-ltb x x (omega arith)) ∙ none_kept l all)

      later : (b : ℕ) → ltb x b ≡ true → every (λ a. g a b) (keep (λ a. ltb a b) (x ∷ l)) ≡ (g x b && every (λ a. g a b) (keep (λ a. ltb a b) l))
      later b m = ap (λ t. every (λ a. g a b) (cond t (x ∷ keep (λ a. ltb a b) l) (keep (λ a. ltb a b) l))) m

  -- Two tests that agree where the first number is lower.
  pub same_two : (f : ℕ → ℕ → Bool) → ((a b : ℕ) → a < b → f a b ≡ g a b) → (l : List ℕ) → every_two ltb l ≡ true → every_two f l ≡ every_two g l
  same_two f same [] up = refl
  same_two f same (x ∷ l) up =
      let parts = both (every (ltb x) l) up in
      ap₂ (λ a b. a && b) (every_same (f x) (g x) l (λ y k. same x y (ltb-true x y (every_in (ltb x) l parts.0 k)))) (same_two f same l parts.1)

-- A number below all of a list is not in it.
not_in : (x : ℕ) (l : List ℕ) → every (ltb x) l ≡ true → contains l x ≡ false
not_in x l all = go (contains l x) refl
  where
    go : (found : Bool) → contains l x ≡ found → found ≡ false
    go false e = refl
    go true e = absurd (omega (arith, ltb-true x x (every_contains (ltb x) l x all e)))

-- A rising list of numbers below k + n, from k on, is what is kept of them.
kept : (k n : ℕ) (l : List ℕ) → every_two ltb l ≡ true → every (leb k) l ≡ true → every (λ q. ltb q (k + n)) l ≡ true → keep (contains l) (numbers_from k n) ≡ l
kept k n [] up low high = nothing n k
  where
    nothing : (m j : ℕ) → keep (contains []) (numbers_from j m) ≡ []
    nothing zero j = refl
    nothing (suc m) j = nothing m (suc j)
kept k zero (x ∷ l) up low high =
    absurd (omega (arith, ltb-true x (k + 0) (both (ltb x (k + 0)) high).0, leb-true k x (both (leb k x) low).0))
kept k (suc n) (x ∷ l) up low high =
    go (dec_le x k) (kept (suc k) n l above.1) (kept (suc k) n (x ∷ l) up)
  where
    above : (every (ltb x) l ≡ true) × (every_two ltb l ≡ true)
    above = both (every (ltb x) l) up

    higher : every (λ q. ltb q (suc k + n)) (x ∷ l) ≡ true
    higher = every_weaken (λ q. ltb q (k + suc n)) (λ q. ltb q (suc k + n)) (λ q m. lt-ltb q (suc k + n) (omega (arith, ltb-true q (k + suc n) m))) (x ∷ l) high

    go : Dec (x ≤ k) → (every (leb (suc k)) l ≡ true → every (λ q. ltb q (suc k + n)) l ≡ true → keep (contains l) (numbers_from (suc k) n) ≡ l)
        → (every (leb (suc k)) (x ∷ l) ≡ true → every (λ q. ltb q (suc k + n)) (x ∷ l) ≡ true → keep (contains (x ∷ l)) (numbers_from (suc k) n) ≡ x ∷ l)
        → keep (contains (x ∷ l)) (numbers_from k (suc n)) ≡ x ∷ l
    go (yes h) rest all =
        let first : x ≡ k = omega (arith, leb-true k x (both (leb k x) low).0) in
        ap (λ b. cond (b || contains l k) (k ∷ keep (contains (x ∷ l)) (numbers_from (suc k) n)) (keep (contains (x ∷ l)) (numbers_from (suc k) n))) (eq-eqb k x (sym first))
        ∙ ap₂ (λ y ys. y ∷ ys) (sym first)
        (same_keep (contains (x ∷ l)) (contains l) (suc k) n (λ q m u. ap (λ b. b || contains l q) (ne_eqb q x (λ e. omega arith)))
        ∙ rest (every_weaken (ltb x) (leb (suc k)) (λ q m. le-leb (suc k) q (omega (arith, ltb-true x q m))) l above.0) (both (ltb x (suc k + n)) higher).1)
    go (no h) rest all =
        let low_all : every (ltb k) (x ∷ l) ≡ true = join (lt-ltb k x (omega arith)) (every_weaken (ltb x) (ltb k) (λ q m. lt-ltb k q (omega (arith, ltb-true x q m))) l above.0) in
        ap (λ b. cond b (k ∷ keep (contains (x ∷ l)) (numbers_from (suc k) n)) (keep (contains (x ∷ l)) (numbers_from (suc k) n))) (not_in k (x ∷ l) low_all)
        ∙ all low_all higher

-- Every number is at least 0.
pub from_zero : (l : List ℕ) → every (leb 0) l ≡ true
from_zero [] = refl
from_zero (x ∷ l) = join (le-leb 0 x (omega arith)) (from_zero l)

pub kept_below : (n : ℕ) (l : List ℕ) → every_two ltb l ≡ true → every (λ q. ltb q n) l ≡ true → keep (contains l) (below n) ≡ l
kept_below n l up high = kept 0 n l up (from_zero l) (every_weaken (λ q. ltb q n) (λ q. ltb q (0 + n)) (λ q m. lt-ltb q (0 + n) (omega (arith, ltb-true q n m))) l high)

-- Without its first.
pub keep_rest : (x : ℕ) (l : List ℕ) → every_two ltb (x ∷ l) ≡ true → keep (λ q. not (eqb q x)) (x ∷ l) ≡ l
keep_rest x l r = rw (eq-eqb x x refl) (keep_all (λ q. not (eqb q x)) l (every_weaken (ltb x) (λ q. not (eqb q x)) other l (both (every (ltb x) l) r).0))
  where
    other : (q : ℕ) → ltb x q ≡ true → not (eqb q x) ≡ true
    other q h = ap not (ne_eqb q x (λ e. omega (arith, ltb-true x q h)))

-- A test of any two members of a rising list, where each two pass it.
pub two_all : (f : ℕ → ℕ → Bool) (l : List ℕ) → every_two ltb l ≡ true → ((a b : ℕ) → a ∈ l → b ∈ l → a < b → f a b ≡ true) → every_two f l ≡ true
two_all f [] up each = refl
two_all f (x ∷ l) up each =
    let (now, later) = both (every (ltb x) l) up in
    join (every_all (f x) l (λ y k. each x y (here refl) (there k) (ltb-true x y (every_in (ltb x) l now k)))) (two_all f l later (λ a b i k. each a b (there i) (there k)))

-- The numbers from a on rise.
pub numbers_rise : (a n : ℕ) → every_two ltb (numbers_from a n) ≡ true
numbers_rise a zero = refl
numbers_rise a (suc n) = join (every_all (ltb a) (numbers_from (suc a) n) (λ q k. lt-ltb a q ((numbers_enumerate (suc a) n).only q k).0)) (numbers_rise (suc a) n)
