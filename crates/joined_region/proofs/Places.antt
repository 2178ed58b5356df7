-- One more element of a list that is filled from a place on.
use Rattle.std.proofs.Common.{ℕ, List, get_or, set, length, arith, get_or-set_same, get_or-set_other, ◌+◌, ◌<◌, ◌≤◌, ◌≡◌}
use Rattle.std.proofs.Math.Decide.{ℕ_discrete}

module _ {A : Type 0} (Given : ℕ → A → Type 0) (l : List A) (a e : A) where
  pub place_more : (n i : ℕ) → n + i < length l → ((k : ℕ) → k < i → Given k (get_or l (n + k) e)) → Given i a
      → (k : ℕ) → k < i + 1 → Given k (get_or (set l (n + i) a) (n + k) e)
  place_more n i room before given k h = go (ℕ_discrete k i)
    where
      go : Dec (k ≡ i) → Given k (get_or (set l (n + i) a) (n + k) e)
      go (yes same) = rw (same, get_or-set_same l (n + i) a e room) given
      go (no other) = rw (get_or-set_other l (n + i) (n + k) a e (λ z. other (omega arith))) (before k (omega arith))

  pub place_kept : (n i : ℕ) → n ≤ i → ((k : ℕ) → k < n → Given k (get_or l k e)) → (k : ℕ) → k < n → Given k (get_or (set l i a) k e)
  place_kept n i behind before k h = rw (get_or-set_other l i k a e (λ z. omega arith)) (before k h)
