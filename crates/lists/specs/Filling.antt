-- Lists that a loop fills place by place.
use Rattle.std.specs.Prelude.{◌≡◌, ◌≤◌, set}
use Rattle.std.proofs.Math.Decide.{ℕ_discrete}
use Rattle.std.proofs.Common.{arith, get_or-set_same, get_or-set_other, ◌+◌, ◌<◌}
use Rattle.definitions.specs.Basics.{ℕ, List, length, get_or}

-- What stands at each of the first n places is what belongs there.
pub record Filled {A : Type 0} (Belongs : ℕ → A → Type 0) (d : A) (n : ℕ) (l : List A) : Type 0 where
  pub each : (i : ℕ) → i < n → Belongs i (get_or l i d)

module _ {A : Type 0} {Belongs : ℕ → A → Type 0} {d : A} {l : List A} where
  pub filled_none : Filled Belongs d 0 l
  filled_none = record { each = λ i h. absurd (omega arith) }

  -- One more.
  pub filled_more : {n : ℕ} (a : A) → Filled Belongs d n l → n < length l → Belongs n a → Filled Belongs d (n + 1) (set l n a)
  filled_more {n} a before room belongs = record { each = λ i h. go i h (ℕ_discrete i n) }
    where
      go : (i : ℕ) → i < n + 1 → Dec (i ≡ n) → Belongs i (get_or (set l n a) i d)
      go i h (yes e) = rw (e, get_or-set_same l n a d room) belongs
      go i h (no e) = rw (get_or-set_other l n i a d e) (before.each i (omega arith))

  pub filled_all : {n : ℕ} (m : ℕ) → Filled Belongs d n l → m ≤ n → Filled Belongs d m l
  filled_all m before all = record { each = λ i h. before.each i (omega arith) }
