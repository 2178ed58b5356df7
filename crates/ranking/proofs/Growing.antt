-- A list of the first m things that grows by the things of one set after another.
use Rattle.std.specs.Prelude.{◌⊎◌}
use Rattle.std.proofs.Common.{inl, inr, arith, ◌≡◌}
use Rattle.definitions.specs.Basics.{ℕ, suc, Ordering, List, length, get_or, take, insert}
use Rattle.ranking.specs.Orders.{Order, View, before, equal, after}
use Rattle.ranking.specs.First.{Covered, first_cut}
use Rattle.ranking.proofs.First.{first_covered}
use Rattle.ranking.proofs.Sorting.{first_insert}
use Rattle.ranking.specs.Growing.{With, Grown, Ready, grown_none}

module _ {A : Type 0} {O : Order A} {m : ℕ} where
  pub grown_one : {Q : A → Type 0} {old : List A} (z : A) → Q z → ((y : A) → Q y → y ≡ z) → Ready O m old Q → Grown O m old Q (take m (insert O.cmp z old))
  grown_one z q only r = first_insert z (λ k. r.new z k q) (λ y k. inl k) (inr q) (λ y p. elim p [ inl k ↦ inl k | inr s ↦ inr (only y s) ])
      (record { sorted = r.sorted; sound = λ k. k; short = r.short; complete = λ y k. inl k })

  -- By the things of one set and then of another.
  pub grown_then : {Q R : A → Type 0} {old mid l : List A} → Grown O m old Q mid → Grown O m mid R l → Grown O m old (λ z. Q z ⊎ R z) l
  grown_then {Q} {R} {old} {mid} h g = (first_covered {O = O} {m = m} {P = With mid R} {Q = With old (λ z. Q z ⊎ R z)}
      (λ z p. elim p [ inl k ↦ elim (h.sound k) [ inl i ↦ inl i | inr q ↦ inr (inl q) ] | inr r ↦ inr (inr r) ])
      (λ z p. elim p [ inl k ↦ earlier z (inl k) | inr s ↦ elim s [ inl q ↦ earlier z (inr q) | inr r ↦ inl (inr r) ] ])).0 g
    where
      earlier : (z : A) → With old Q z → With mid R z ⊎ Covered O m (With mid R) z
      earlier z p = elim (h.complete z p) [
        | inl k ↦ inl (inl k)
        | inr c ↦ inr (record { things = mid; rising = h.sorted; within = λ y k. inl k; earlier = λ y k. c.ahead k; enough = omega (arith, c.full) })
      ]

  -- A cut: a full list does not grow by what is not before something that is not before its last.
  pub grown_cut : {Q : A → Type 0} {old : List A} (n : ℕ) (d best : A) → m ≡ suc n → length old ≡ m → ((z : A) → Q z → O.Lt z best → ⊥)
      → (O.Lt best (get_or old n d) → ⊥) → Ready O m old Q → Grown O m old Q old
  grown_cut {old} n d best e full above late r = first_cut n d e full (λ z p. elim p [ inl k ↦ inl k | inr q ↦ absurd q ])
      (λ z p. elim p [ inl k ↦ inl (inl k) | inr q ↦ inr (go z (above z q) (O.view best z)) ]) (grown_none {R = λ z. ⊥} r (λ z q. q))
    where
      go : (z : A) → (O.Lt z best → ⊥) → {o : Ordering} → View O.Lt best z o → O.Lt z (get_or old n d) → ⊥
      go z h (before k) lt = late (O.trans k lt)
      go z h (equal q) lt = late (rw q lt)
      go z h (after k) lt = h k
