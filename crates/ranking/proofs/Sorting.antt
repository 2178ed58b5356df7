-- Sorting by insertion: what it keeps, where a new element goes, and that it finds the first m of a set.
use Rattle.std.proofs.Common.{ap, ◌∙◌, inl, inr, arith, length-take, ◌≡◌, ◌∷◌}
use Rattle.std.specs.Prelude.{◌⊎◌}
use Rattle.definitions.specs.Basics.{ℕ, zero, suc, min, Ordering}
use Rattle.definitions.specs.Basics.{refl, List, [], length, take, insert, sort}
use Rattle.lists.specs.Members.{◌∈◌, ◌⊆◌, Distinct, Enumerates, here, there, here_or_there, none_in_nil}
use Rattle.ranking.specs.Orders.{Order, View, before, equal, after}
use Rattle.ranking.specs.First.{First, Past, first_iff, first_zero, first_none, first_nil, first_least, first_tail}
use Rattle.ranking.proofs.First.{first_cons, first_unique, first_take}
use Rattle.ranking.specs.Sorting.{step, sort_length, take_insert}

module _ {A : Type 0} {O : Order A} where
  -- One more thing in the set: it is inserted.
  pub first_insert : {m : ℕ} {P Q : A → Type 0} {l : List A} (z : A) → (P z → ⊥) → P ⊆ Q → Q z → ((y : A) → Q y → P y ⊎ (y ≡ z))
      → First O m P l → First O m Q (take m (insert O.cmp z l))
  first_insert {m = zero} z new f q g h = first_zero
  first_insert {m = suc m} {P} {Q} {l = []} z new f q g h =
      first_cons q (λ y t. inl (only y t)) (first_take {m = m} (omega arith) (first_none (λ y t. O.irrefl (rw (only y t.0) at t.1))))
    where
      only : (y : A) → Q y → y ≡ z
      only y t = elim (g y t) [ inl p ↦ absurd (first_nil h y p) | inr e ↦ e ]
  first_insert {m = suc m} {P} {Q} {l = x ∷ l} z new f q g h = go (O.view z x)
      (λ t. first_insert {m = m} {l = l} z (λ p. new p.0) (λ y u. (f y u.0, u.1)) (q, t) old (first_tail h))
    where
      old : (y : A) → Past O Q x y → Past O P x y ⊎ (y ≡ z)
      old y u = elim (g y u.0) [ inl p ↦ inl (p, u.1) | inr e ↦ inr e ]

      up : O.Lt z x → (y : A) → P y → O.Lt z y
      up t y p = elim (first_least h y p) [ inl e ↦ rw e t | inr u ↦ O.trans t u ]

      go : {o : Ordering} → View O.Lt z x o → (O.Lt x z → First O m (Past O Q x) (take m (insert O.cmp z l)))
          → First O (suc m) Q (take (suc m) (step o z x l (insert O.cmp z l)))
      go (before t) ih = first_cons q (λ y u. elim (g y u) [ inl p ↦ inr (up t y p) | inr e ↦ inl e ]) (first_iff
          (λ y p. (f y p, up t y p))
          (λ y u. elim (g y u.0) [ inl p ↦ p | inr e ↦ absurd (O.irrefl (rw e at u.1)) ])
          (first_take (omega arith) h))
      go (equal e) ih = absurd (new (rw e (h.sound (here refl))))
      go (after t) ih = first_cons (f x (h.sound (here refl))) (λ y u. elim (g y u) [ inl p ↦ first_least h y p | inr e ↦ inr (rw e t) ]) (ih t)

  -- Sorting gives the first m of a distinct list, so of any set that such a list enumerates.
  pub first_sort : {m : ℕ} (l : List A) → Distinct l → First O m (λ z. z ∈ l) (take m (sort O.cmp l))
  first_sort {m} [] d = first_take {m = m} (omega arith) (first_none (λ z k. none_in_nil k))
  first_sort {m} (x ∷ l) d = rw (← take_insert O.cmp m x (sort O.cmp l))
      (first_insert x d.0 (λ y k. there k) (here refl) (λ y k. elim (here_or_there k) [ inl e ↦ inr e | inr t ↦ inl t ]) (first_sort l d.1))

  pub first_of : {m : ℕ} {P : A → Type 0} {l : List A} → Enumerates P l → First O m P (take m (sort O.cmp l))
  first_of {l} e = first_iff e.only e.every (first_sort l e.distinct)

  -- There are m of them, or as many as there are.
  pub first_count_lem : {m : ℕ} {P : A → Type 0} {l r : List A} → Enumerates P l → First O m P r → length r ≡ min m (length l)
  first_count_lem {m} {l} e h = ap length (first_unique h (first_of e)) ∙ length-take m (sort O.cmp l) ∙ ap (min m) (sort_length O.cmp l)
