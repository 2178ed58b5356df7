-- Lists in which none comes before an earlier one, equal ones allowed: how things are inserted into them.
use Rattle.std.specs.Prelude.{◌≡◌, refl, ◌≤◌}
use Rattle.std.proofs.Common.{sym, ap, subst, arith, ◌<◌, ◌∷◌}
use Rattle.std.proofs.Math.Decide.{dec_lt}
use Rattle.definitions.specs.Basics.{ℕ, zero, suc, Ordering, ordering_lt, ordering_eq, ordering_gt, List, [], length, get_or, take, insert, sort}
use Rattle.lists.specs.Members.{◌∈◌, here, there}
use Rattle.ranking.specs.Orders.{Order, View, before, equal, after}
use Rattle.ranking.specs.First.{Sorted}
use Rattle.ranking.specs.Sorting.{step}

module _ {A : Type 0} (O : Order A) where
  -- None of a list comes before x; in a rising list, none comes before an earlier one.
  abbrev pub NoneBefore : A → List A → Type 0
  NoneBefore x [] = Unit {0}
  NoneBefore x (y ∷ l) = (O.Lt y x → ⊥) × NoneBefore x l

  abbrev pub Rising : List A → Type 0
  Rising [] = Unit {0}
  Rising (x ∷ l) = NoneBefore x l × Rising l

  none_at : (x : A) (l : List A) (i : ℕ) (d : A) → NoneBefore x l → i < length l → O.Lt (get_or l i d) x → ⊥
  none_at x [] i d n h t = omega arith
  none_at x (y ∷ l) zero d n h t = n.0 t
  none_at x (y ∷ l) (suc i) d n h t = none_at x l i d n.1 (omega arith) t

  none_earlier : (x z : A) (l : List A) → O.Lt z x → NoneBefore x l → NoneBefore z l
  none_earlier x z [] t n = tt
  none_earlier x z (y ∷ l) t n = (λ u. n.0 (O.trans u t), none_earlier x z l t n.1)

  none_insert : (x z : A) (l : List A) → (O.Lt z x → ⊥) → NoneBefore x l → NoneBefore x (insert O.cmp z l)
  none_insert x z [] h n = (h, tt)
  none_insert x z (y ∷ l) h n = elim (O.cmp z y) as (λ o. NoneBefore x (step o z y l (insert O.cmp z l))) [
    | ordering_lt ↦ (h, n)
    | ordering_eq ↦ (h, n)
    | ordering_gt ↦ (n.0, none_insert x z l h n.1)
  ]

  rising_insert : (z : A) (l : List A) → Rising l → Rising (insert O.cmp z l)
  rising_insert z [] r = (tt, tt)
  rising_insert z (x ∷ l) r = go (O.view z x) (rising_insert z l r.1)
    where
      go : {o : Ordering} → View O.Lt z x o → Rising (insert O.cmp z l) → Rising (step o z x l (insert O.cmp z l))
      go (before t) ih = ((λ u. O.irrefl (O.trans t u), none_earlier x z l t r.0), r)
      go (equal e) ih = ((λ u. O.irrefl (rw e at u), subst (λ (w : A). NoneBefore w l) (sym e) r.0), r)
      go (after t) ih = (none_insert x z l (λ u. O.irrefl (O.trans t u)) r.0, ih)

  pub rising_sort : (l : List A) → Rising (sort O.cmp l)
  rising_sort [] = tt
  rising_sort (x ∷ l) = rising_insert x (sort O.cmp l) (rising_sort l)

  -- What comes after one of a rising list is inserted behind it.
  pub insert_behind : (k : ℕ) (z : A) (l : List A) (d : A) → Rising l → k < length l → O.Lt (get_or l k d) z → take (suc k) (insert O.cmp z l) ≡ take (suc k) l
  insert_behind k z [] d r h t = absurd (omega arith)
  insert_behind zero z (x ∷ l) d r h t = go (O.view z x)
    where
      go : {o : Ordering} → View O.Lt z x o → take 1 (step o z x l (insert O.cmp z l)) ≡ x ∷ []
      go (before u) = absurd (O.irrefl (O.trans t u))
      go (equal e) = absurd (O.irrefl (rw e at t))
      go (after u) = refl
  insert_behind (suc k) z (x ∷ l) d r h t = go (O.view z x) (insert_behind k z l d r.1 (omega arith) t)
    where
      go : {o : Ordering} → View O.Lt z x o → take (suc k) (insert O.cmp z l) ≡ take (suc k) l
          → take (suc (suc k)) (step o z x l (insert O.cmp z l)) ≡ x ∷ take (suc k) l
      go (before u) ih = absurd (none_at x l k d r.0 (omega arith) (O.trans t u))
      go (equal e) ih = absurd (none_at x l k d r.0 (omega arith) (rw e at t))
      go (after u) ih = ap {B = List A} (λ w. x ∷ w) ih

  pub rising_take : (n : ℕ) (l : List A) → Rising l → Rising (take n l)
  rising_take zero l r = tt
  rising_take (suc n) [] r = tt
  rising_take (suc n) (x ∷ l) r = (none_take n x l r.0, rising_take n l r.1)
    where
      none_take : (n : ℕ) (x : A) (l : List A) → NoneBefore x l → NoneBefore x (take n l)
      none_take zero x l h = tt
      none_take (suc n) x [] h = tt
      none_take (suc n) x (y ∷ l) h = (h.0, none_take n x l h.1)

  -- A list in which each comes before all later ones is rising.
  pub sorted_rising : (l : List A) → Sorted O l → Rising l
  sorted_rising [] s = tt
  sorted_rising (x ∷ l) s = (none l s.0, sorted_rising l s.1)
    where
      none : (k : List A) → ((y : A) → y ∈ k → O.Lt x y) → NoneBefore x k
      none [] h = tt
      none (y ∷ k) h = (λ t. O.irrefl (O.trans t (h y (here refl))), none k (λ z i. h z (there i)))

  -- By places: none comes before an earlier one, so what is behind one is behind all earlier ones.
  pub rising_at : (l : List A) (i j : ℕ) (d : A) → Rising l → i < j → j < length l → O.Lt (get_or l j d) (get_or l i d) → ⊥
  rising_at [] i j d r h k = absurd (omega arith)
  rising_at (x ∷ l) i zero d r h k = absurd (omega arith)
  rising_at (x ∷ l) zero (suc j) d r h k = none_at x l j d r.0 (omega arith)
  rising_at (x ∷ l) (suc i) (suc j) d r h k = rising_at l i j d r.1 (omega arith) (omega arith)

  pub rising_behind : (z : A) (l : List A) (i j : ℕ) (d : A) → Rising l → i ≤ j → j < length l → O.Lt (get_or l j d) z → O.Lt (get_or l i d) z
  rising_behind z l i j d r h k t = elim (dec_lt i j) [
    | yes e ↦ go (O.view (get_or l i d) (get_or l j d)) (rising_at l i j d r e k)
    | no e ↦ (let same : i ≡ j = omega arith in rw same t)
  ]
    where
      go : {o : Ordering} → View O.Lt (get_or l i d) (get_or l j d) o → (O.Lt (get_or l j d) (get_or l i d) → ⊥) → O.Lt (get_or l i d) z
      go (before u) never = O.trans u t
      go (equal e) never = rw e t
      go (after u) never = absurd (never u)
