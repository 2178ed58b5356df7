-- Clinics share the patients: what their counts add up to.
use Rattle.std.specs.Prelude.{◌≡◌, refl, ◌≤◌}
use Rattle.std.proofs.Common.{arith, eqb-true, ◌+◌, ◌∷◌}
use Rattle.definitions.specs.Basics.{ℕ, Bool, true, false, cond, List, [], map, length, eqb, sum, keep}
use Rattle.lists.specs.Members.{◌∈◌, Distinct, here, there}

-- A sum over the kept elements is at most that over all.
pub sum_keep : (f : ℕ → Bool) (k : ℕ → ℕ) (l : List ℕ) → sum (map k (keep f l)) ≤ sum (map k l)
sum_keep f k [] = omega arith
sum_keep f k (x ∷ l) = go (f x) (sum_keep f k l)
  where
    go : (b : Bool) → sum (map k (keep f l)) ≤ sum (map k l) → sum (map k (cond b (x ∷ keep f l) (keep f l))) ≤ k x + sum (map k l)
    go true h = omega arith
    go false h = omega arith

-- A number is at most one of some that differ.
none_is : (x : ℕ) (cs : List ℕ) → (x ∈ cs → ⊥) → sum (map (λ c. cond (eqb x c) 1 0) cs) ≡ 0
none_is x [] out = refl
none_is x (c ∷ cs) out = go (eqb x c) refl (none_is x cs (λ k. out (there k)))
  where
    go : (b : Bool) → eqb x c ≡ b → sum (map (λ c. cond (eqb x c) 1 0) cs) ≡ 0 → cond b 1 0 + sum (map (λ c. cond (eqb x c) 1 0) cs) ≡ 0
    go true e later = absurd (out (here (eqb-true x c e)))
    go false e later = omega arith

one_is : (x : ℕ) (cs : List ℕ) → Distinct cs → sum (map (λ c. cond (eqb x c) 1 0) cs) ≤ 1
one_is x [] differ = omega arith
one_is x (c ∷ cs) differ = go (eqb x c) refl (one_is x cs differ.1)
  where
    go : (b : Bool) → eqb x c ≡ b → sum (map (λ c. cond (eqb x c) 1 0) cs) ≤ 1 → cond b 1 0 + sum (map (λ c. cond (eqb x c) 1 0) cs) ≤ 1
    go true e later = let same = eqb-true x c e in omega (arith, none_is x cs (λ k. differ.0 (rw (← same) k)))
    go false e later = omega arith

-- So elements that are counted by a number of theirs are counted at most once.
module _ (number : ℕ → ℕ) where
  one_more_lem : (x : ℕ) (l cs : List ℕ)
      → sum (map (λ c. length (keep (λ s. eqb (number s) c) (x ∷ l))) cs)
      ≡ sum (map (λ c. cond (eqb (number x) c) 1 0) cs) + sum (map (λ c. length (keep (λ s. eqb (number s) c) l)) cs)
  one_more_lem x l [] = refl
  one_more_lem x l (c ∷ cs) = go _ _ (eqb (number x) c) (one_more_lem x l cs)
    where
      kept : List ℕ
      kept = keep (λ s. eqb (number s) c) l

      go : {a : ℕ} (d e : ℕ) (b : Bool) → a ≡ d + e → length (cond b (x ∷ kept) kept) + a ≡ (cond b 1 0 + d) + (length kept + e)
      go d e true h = omega arith
      go d e false h = omega arith

  pub shares : (l cs : List ℕ) → Distinct cs → sum (map (λ c. length (keep (λ s. eqb (number s) c) l)) cs) ≤ length l
  shares [] cs differ = nothing cs
    where
      nothing : (cs : List ℕ) → sum (map (λ c. length (keep (λ s. eqb (number s) c) [])) cs) ≤ 0
      nothing [] = omega arith
      nothing (c ∷ cs) = omega (arith, nothing cs)
  shares (x ∷ l) cs differ = omega (arith, one_more_lem x l cs, one_is (number x) cs differ, shares l cs differ)
