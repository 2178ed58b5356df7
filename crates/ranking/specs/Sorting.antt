-- Sorting by insertion: what it keeps, where a new element goes, and that it finds the first m of a set.
-- (Theorems that rest on these stand in `proofs/Sorting.antt`.)
use Rattle.std.proofs.Common.{sym, ap, ◌∙◌, inl, inr, arith, take-take, ◌<◌, ◌≡◌, ◌∷◌, ◌++◌}
use Rattle.std.specs.Prelude.{◌⊎◌, ◌≤◌, drop}
use Rattle.definitions.specs.Basics.{ℕ, zero, suc, Ordering, ordering_lt, ordering_eq, ordering_gt}
use Rattle.definitions.specs.Basics.{refl, List, [], length, get_or, take, insert, sort}
use Rattle.lists.specs.Members.{◌∈◌, Distinct, here, there, here_or_there, none_in_nil}
use Rattle.ranking.specs.Orders.{Order, View, before, equal, after}

-- One step of insertion: z goes in front of x, or into the rest.
abbrev pub step : {A : Type 0} → Ordering → A → A → List A → List A → List A
step o z x l rest = elim o [ ordering_lt ↦ z ∷ x ∷ l | ordering_eq ↦ z ∷ x ∷ l | ordering_gt ↦ x ∷ rest ]

-- By any comparison, sorting keeps the elements, their number and that they are distinct.
module _ {A : Type 0} (cmp : A → A → Ordering) where
  pub insert_out : {y z : A} (l : List A) → y ∈ insert cmp z l → (y ≡ z) ⊎ (y ∈ l)
  insert_out [] h = here_or_there h
  insert_out {y} {z} (x ∷ l) h = go (cmp z x) h (insert_out l)
    where
      go : (o : Ordering) → y ∈ step o z x l (insert cmp z l) → (y ∈ insert cmp z l → (y ≡ z) ⊎ (y ∈ l)) → (y ≡ z) ⊎ (y ∈ x ∷ l)
      go ordering_lt k ih = here_or_there k
      go ordering_eq k ih = here_or_there k
      go ordering_gt k ih = elim (here_or_there k) [ inl e ↦ inr (here e) | inr t ↦ elim (ih t) [ inl e ↦ inl e | inr u ↦ inr (there u) ] ]

  insert_in : {y z : A} (l : List A) → (y ≡ z) ⊎ (y ∈ l) → y ∈ insert cmp z l
  insert_in [] h = elim h [ inl e ↦ here e | inr k ↦ absurd (none_in_nil k) ]
  insert_in {y} {z} (x ∷ l) h = go (cmp z x) (insert_in l)
    where
      front : y ∈ z ∷ x ∷ l
      front = elim h [ inl e ↦ here e | inr k ↦ there k ]

      go : (o : Ordering) → ((y ≡ z) ⊎ (y ∈ l) → y ∈ insert cmp z l) → y ∈ step o z x l (insert cmp z l)
      go ordering_lt ih = front
      go ordering_eq ih = front
      go ordering_gt ih = elim h [ inl e ↦ there (ih (inl e)) | inr k ↦ elim (here_or_there k) [ inl e ↦ here e | inr t ↦ there (ih (inr t)) ] ]

  insert_length : (z : A) (l : List A) → length (insert cmp z l) ≡ suc (length l)
  insert_length z [] = refl
  insert_length z (x ∷ l) = elim (cmp z x) as (λ o. length (step o z x l (insert cmp z l)) ≡ suc (suc (length l))) [
    | ordering_lt ↦ refl
    | ordering_eq ↦ refl
    | ordering_gt ↦ ap suc (insert_length z l)
  ]

  insert_distinct : (z : A) (l : List A) → (z ∈ l → ⊥) → Distinct l → Distinct (insert cmp z l)
  insert_distinct z [] new d = (new, tt)
  insert_distinct z (x ∷ l) new d = elim (cmp z x) as (λ o. Distinct (step o z x l (insert cmp z l))) [
    | ordering_lt ↦ (new, d)
    | ordering_eq ↦ (new, d)
    | ordering_gt ↦ (λ k. elim (insert_out l k) [ inl e ↦ new (here (sym e)) | inr t ↦ d.0 t ], insert_distinct z l (λ k. new (there k)) d.1)
  ]

  pub sort_out : {y : A} (l : List A) → y ∈ sort cmp l → y ∈ l
  sort_out [] h = h
  sort_out (x ∷ l) h = elim (insert_out (sort cmp l) h) [ inl e ↦ here e | inr t ↦ there (sort_out l t) ]

  pub sort_in : {y : A} (l : List A) → y ∈ l → y ∈ sort cmp l
  sort_in [] h = h
  sort_in (x ∷ l) h = insert_in (sort cmp l) (elim (here_or_there h) [ inl e ↦ inl e | inr t ↦ inr (sort_in l t) ])

  pub sort_length : (l : List A) → length (sort cmp l) ≡ length l
  sort_length [] = refl
  sort_length (x ∷ l) = insert_length x (sort cmp l) ∙ ap suc (sort_length l)

  pub sort_distinct : (l : List A) → Distinct l → Distinct (sort cmp l)
  sort_distinct [] d = tt
  sort_distinct (x ∷ l) d = insert_distinct x (sort cmp l) (λ k. d.0 (sort_out l k)) (sort_distinct l d.1)

  -- For the first m, it is enough to insert into the first m.
  pub take_insert : (m : ℕ) (z : A) (l : List A) → take m (insert cmp z (take m l)) ≡ take m (insert cmp z l)
  take_insert zero z l = refl
  take_insert (suc m) z [] = refl
  take_insert (suc m) z (x ∷ l) = go (cmp z x) (take_insert m z l)
    where
      one : (k : ℕ) → take k (x ∷ take k l) ≡ take k (x ∷ l)
      one zero = refl
      one (suc k) = ap {B = List A} (λ r. x ∷ r) (take-take k (suc k) l (omega arith))

      go : (o : Ordering) → take m (insert cmp z (take m l)) ≡ take m (insert cmp z l)
          → take (suc m) (step o z x (take m l) (insert cmp z (take m l))) ≡ take (suc m) (step o z x l (insert cmp z l))
      go ordering_lt ih = ap {B = List A} (λ r. z ∷ r) (one m)
      go ordering_eq ih = ap {B = List A} (λ r. z ∷ r) (one m)
      go ordering_gt ih = ap {B = List A} (λ r. x ∷ r) ih

module _ {A : Type 0} (O : Order A) where
  -- The place of a new element: past all that come before it.
  pub insert_at : (z : A) (l : List A) (j : ℕ) (d : A) → j ≤ length l → ((i : ℕ) → i < j → O.Lt (get_or l i d) z) → (j < length l → O.Lt (get_or l j d) z → ⊥)
      → insert O.cmp z l ≡ take j l ++ z ∷ drop j l
  insert_at z [] zero d h f g = refl
  insert_at z [] (suc j) d h f g = absurd (omega arith)
  insert_at z (x ∷ l) zero d h f g = go (O.view z x)
    where
      go : {o : Ordering} → View O.Lt z x o → step o z x l (insert O.cmp z l) ≡ z ∷ x ∷ l
      go (before t) = refl
      go (equal e) = refl
      go (after t) = absurd (g (omega arith) t)
  insert_at z (x ∷ l) (suc j) d h f g = go (O.view z x) (insert_at z l j d (omega arith) (λ i k. f (suc i) (omega arith)) (λ k. g (omega arith)))
    where
      past : O.Lt x z
      past = f zero (omega arith)

      go : {o : Ordering} → View O.Lt z x o → insert O.cmp z l ≡ take j l ++ z ∷ drop j l
          → step o z x l (insert O.cmp z l) ≡ x ∷ (take j l ++ z ∷ drop j l)
      go (before t) ih = absurd (O.irrefl (O.trans past t))
      go (equal e) ih = absurd (O.irrefl (rw e at past))
      go (after t) ih = ap {B = List A} (λ r. x ∷ r) ih
