-- The first m things of a set in a strict total order: what that means, how the set may change under the list, and that the set determines the list.
use Rattle.std.proofs.Common.{sym, ap₂, inl, inr, arith, ◌≡◌, ◌∷◌}
use Rattle.std.specs.Prelude.{◌⊎◌, ◌↔◌, ◌≤◌}
use Rattle.definitions.specs.Basics.{ℕ, zero, suc, refl, List, [], length, take}
use Rattle.lists.specs.Members.{◌∈◌, ◌⊆◌, here, there, here_or_there}
use Rattle.ranking.specs.Orders.{Order}
use Rattle.ranking.specs.First.{Sorted, FullBefore, First, Covered, Least, Past, first_prune, first_shrink, full_nil, first_zero, first_none, first_nil, first_least, first_tail}

module _ {A : Type 0} {O : Order A} where
  full_cons : {m : ℕ} {x z : A} {l : List A} → O.Lt x z → FullBefore O m l z → FullBefore O (suc m) (x ∷ l) z
  full_cons t c = record { full = omega (arith, c.full); ahead = λ k. elim (here_or_there k) [ inl e ↦ rw e t | inr u ↦ c.ahead u ] }

  pub first_cons : {m : ℕ} {P : A → Type 0} {x : A} {l : List A} → P x → Least O P x → First O m (Past O P x) l → First O (suc m) P (x ∷ l)
  first_cons p least h = record {
    sorted = (λ y k. (h.sound k).1, h.sorted);
    sound = λ k. elim (here_or_there k) [ inl e ↦ rw e p | inr t ↦ (h.sound t).0 ];
    short = omega (arith, h.short);
    complete = λ z q. elim (least z q) [
      | inl e ↦ inl (here e)
      | inr t ↦ elim (h.complete z (q, t)) [ inl k ↦ inl (there k) | inr c ↦ inr (full_cons t c) ]
    ];
  }

  -- The set determines the list.
  first_head : {m : ℕ} {P : A → Type 0} {x y : A} {l k : List A} → First O m P (x ∷ l) → First O m P (y ∷ k) → x ≡ y
  first_head {x} {y} h g = elim (first_least h y (g.sound (here refl))) [
    | inl e ↦ sym e
    | inr t ↦ elim (first_least g x (h.sound (here refl))) [ inl e ↦ e | inr u ↦ absurd (O.irrefl (O.trans t u)) ]
  ]

  pub first_unique : {m : ℕ} {P : A → Type 0} {l k : List A} → First O m P l → First O m P k → l ≡ k
  first_unique {l = []} {k = []} h g = refl
  first_unique {m = zero} {l = []} {k = y ∷ k} h g = absurd (omega (arith, g.short))
  first_unique {m = zero} {l = x ∷ l} h g = absurd (omega (arith, h.short))
  first_unique {m = suc m} {l = []} {k = y ∷ k} h g = absurd (first_nil h y (g.sound (here refl)))
  first_unique {m = suc m} {l = x ∷ l} {k = []} h g = absurd (first_nil g x (h.sound (here refl)))
  first_unique {m = suc m} {P} {l = x ∷ l} {k = y ∷ k} h g =
      let e = first_head h g in
      let rest : First O m (Past O P x) k = rw e (first_tail g) in
      ap₂ {C = List A} (λ a b. a ∷ b) e (first_unique {m = m} {l = l} {k = k} (first_tail h) rest)

  -- The first n of the first m; so, of two lists for one set, the shorter begins the longer.
  pub first_take : {n m : ℕ} {P : A → Type 0} {l : List A} → n ≤ m → First O m P l → First O n P (take n l)
  first_take {n = zero} le h = first_zero
  first_take {n = suc n} {m = zero} le h = absurd (omega arith)
  first_take {n = suc n} {m = suc m} {l = []} le h = first_none (first_nil h)
  first_take {n = suc n} {m = suc m} {l = x ∷ l} le h = first_cons (h.sound (here refl)) (first_least h) (first_take {n = n} {m = m} {l = l} (omega arith) (first_tail h))

  pub first_prefix : {n m : ℕ} {P : A → Type 0} {l k : List A} → n ≤ m → First O n P l → First O m P k → l ≡ take n k
  first_prefix le h g = first_unique h (first_take le g)

  -- What comes after m things of the set comes after the full list; so it makes no difference whether it is in the set.
  pub first_full : {m : ℕ} {P : A → Type 0} {l : List A} {z : A} (k : List A) → Sorted O k → ((y : A) → y ∈ k → P y) → ((y : A) → y ∈ k → O.Lt y z)
      → m ≤ length k → First O m P l → FullBefore O m l z
  first_full {m = zero} {l = []} k s f g le h = full_nil
  first_full {m = zero} {l = x ∷ l} k s f g le h = absurd (omega (arith, h.short))
  first_full {m = suc m} [] s f g le h = absurd (omega arith)
  first_full {m = suc m} {l = []} (y ∷ k) s f g le h = absurd (first_nil h y (f y (here refl)))
  first_full {m = suc m} {l = x ∷ l} {z} (y ∷ k) s f g le h = full_cons (up z (g y (here refl)))
      (first_full {m = m} {l = l} k s.1 (λ w e. (f w (there e), up w (s.0 w e))) (λ w e. g w (there e)) (omega arith) (first_tail h))
    where
      up : (w : A) → O.Lt y w → O.Lt x w
      up w t = elim (first_least h y (f y (here refl))) [ inl e ↦ rw (← e) t | inr u ↦ O.trans u t ]

  pub first_covered : {m : ℕ} {P Q : A → Type 0} {l : List A} → P ⊆ Q → ((z : A) → Q z → P z ⊎ Covered O m P z) → First O m P l ↔ First O m Q l
  first_covered {m} {P} {Q} {l} f g = (
    λ h. first_prune f (λ z q. elim (g z q) [ inl p ↦ inl p | inr c ↦ inr (full c (λ y p. p) h) ]) h,
    λ h. first_shrink f (λ z k. elim (g z (h.sound k)) [ inl p ↦ p | inr c ↦ absurd (O.irrefl ((full c f h).ahead k)) ]) h,
  )
    where
      full : {S : A → Type 0} {z : A} → Covered O m P z → P ⊆ S → First O m S l → FullBefore O m l z
      full c i h = first_full c.things c.rising (λ y e. i y (c.within y e)) c.earlier c.enough h
