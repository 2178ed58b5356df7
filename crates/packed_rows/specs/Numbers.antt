-- How two numbers compare.
use Rattle.std.specs.Prelude.{◌≡◌, refl, ◌≤◌}
use Rattle.std.proofs.Common.{arith, ◌<◌}
use Rattle.definitions.specs.Basics.{ℕ, compare, Ordering, ordering_lt, ordering_eq, ordering_gt}
use Rattle.ranking.specs.Orders.{View, before, equal, after, ℕ-view}

module _ (a b : ℕ) where
  pub less : a < b → compare a b ≡ ordering_lt
  less h = go (ℕ-view a b)
    where
      go : {o : Ordering} → View ◌<◌ a b o → o ≡ ordering_lt
      go (before t) = refl
      go (equal e) = absurd (omega arith)
      go (after t) = absurd (omega arith)

  pub more : b < a → compare a b ≡ ordering_gt
  more h = go (ℕ-view a b)
    where
      go : {o : Ordering} → View ◌<◌ a b o → o ≡ ordering_gt
      go (before t) = absurd (omega arith)
      go (equal e) = absurd (omega arith)
      go (after t) = refl

  pub alike : a ≤ b → b ≤ a → compare a b ≡ ordering_eq
  alike h k = go (ℕ-view a b)
    where
      go : {o : Ordering} → View ◌<◌ a b o → o ≡ ordering_eq
      go (before t) = absurd (omega arith)
      go (equal e) = refl
      go (after t) = absurd (omega arith)
