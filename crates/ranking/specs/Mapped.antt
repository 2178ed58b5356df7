-- Maps that keep how things compare: what they keep of inserting and sorting, of sorted and rising lists, and of the first m things of a set.
use Rattle.std.proofs.Common.{sym, ap, ◌∙◌, inl, inr, arith, ◌≡◌, ◌∷◌}
use Rattle.std.proofs.lemmas.List.{length-map}
use Rattle.definitions.specs.Basics.{ℕ, Ordering, ordering_lt, ordering_eq, ordering_gt, refl, List, [], map, insert, sort}
use Rattle.lists.specs.Members.{◌∈◌, here, there, in_map, in_map_cases, in_cast}
use Rattle.ranking.specs.Orders.{Order, View, before, equal, after}
use Rattle.ranking.specs.First.{First, Sorted, FullBefore}
use Rattle.ranking.specs.Sorting.{step, sort_out}
use Rattle.ranking.specs.Rising.{NoneBefore, Rising}

-- What the map makes of things of Q.
pub record Image {A B : Type 0} (f : A → B) (Q : A → Type 0) (z : B) : Type 0 where
  pub from : A
  pub inside : Q from
  pub is : z ≡ f from

-- A map that takes earlier things to earlier ones keeps a sorted list sorted.
pub sorted_map : {A B : Type 0} (O : Order A) (U : Order B) (f : A → B) {P : A → Type 0} → ((x y : A) → P x → P y → O.Lt x y → U.Lt (f x) (f y))
    → (l : List A) → ((x : A) → x ∈ l → P x) → Sorted O l → Sorted U (map f l)
sorted_map O U f rising [] q s = tt
sorted_map O U f rising (x ∷ l) q s = (
  λ z t. let (y, i, e) = in_map_cases f l t in rw e at (rising x y (q x (here refl)) (q y (there i)) (s.0 y i)),
  sorted_map O U f rising l (λ y i. q y (there i)) s.1,
)

-- The comparison says so exactly where one thing comes before another.
says_before : {A : Type 0} (O : Order A) (x y : A) → O.Lt x y → O.cmp x y ≡ ordering_lt
says_before O x y t = go (O.view x y)
  where
    go : {o : Ordering} → View O.Lt x y o → o ≡ ordering_lt
    go (before u) = refl
    go (equal e) = absurd (O.irrefl (rw e at t))
    go (after u) = absurd (O.irrefl (O.trans t u))

comes_before : {A : Type 0} (O : Order A) (x y : A) → O.cmp x y ≡ ordering_lt → O.Lt x y
comes_before O x y e = go (rw e at (O.view x y))
  where
    go : View O.Lt x y ordering_lt → O.Lt x y
    go (before t) = t

-- By any two comparisons that the map keeps for things of P: to insert or to sort and to map, in either order.
module _ {A B : Type 0} (cmp : A → A → Ordering) (other : B → B → Ordering) (f : A → B) (P : A → Type 0) (keeps : (x y : A) → P x → P y → other (f x) (f y) ≡ cmp x y) where
  pub insert_map : (x : A) (l : List A) → P x → ((y : A) → y ∈ l → P y) → insert other (f x) (map f l) ≡ map f (insert cmp x l)
  insert_map x [] p q = refl
  insert_map x (y ∷ l) p q = rw (keeps x y p (q y (here refl))) (go (cmp x y) (insert_map x l p (λ z i. q z (there i))))
    where
      go : (o : Ordering) → insert other (f x) (map f l) ≡ map f (insert cmp x l)
          → step o (f x) (f y) (map f l) (insert other (f x) (map f l)) ≡ map f (step o x y l (insert cmp x l))
      go ordering_lt ih = refl
      go ordering_eq ih = refl
      go ordering_gt ih = ap {B = List B} (λ r. f y ∷ r) ih

  pub sort_map : (l : List A) → ((y : A) → y ∈ l → P y) → map f (sort cmp l) ≡ sort other (map f l)
  sort_map [] q = refl
  sort_map (x ∷ l) q =
      sym (insert_map x (sort cmp l) (q x (here refl)) (λ y i. q y (there (sort_out cmp l i)))) ∙ ap (insert other (f x)) (sort_map l (λ y i. q y (there i)))

module _ {A B : Type 0} (O : Order A) (U : Order B) (f : A → B) (P : A → Type 0) where
  -- The map keeps how things of P compare.
  abbrev pub Keeps : Type 0
  Keeps = (x y : A) → P x → P y → U.cmp (f x) (f y) ≡ O.cmp x y

module _ {A B : Type 0} (O : Order A) (U : Order B) (f : A → B) (P : A → Type 0) (keeps : Keeps O U f P) where
  -- So it keeps what comes before, both ways.
  pub before_map : (x y : A) → P x → P y → O.Lt x y → U.Lt (f x) (f y)
  before_map x y p q t = comes_before U (f x) (f y) (keeps x y p q ∙ says_before O x y t)

  pub before_back : (x y : A) → P x → P y → U.Lt (f x) (f y) → O.Lt x y
  before_back x y p q t = comes_before O x y (sym (keeps x y p q) ∙ says_before U (f x) (f y) t)

  -- A list is rising, or sorted, where its image is.
  pub rising_back : (l : List A) → ((y : A) → y ∈ l → P y) → Rising U (map f l) → Rising O l
  rising_back [] q r = tt
  rising_back (x ∷ l) q r = (none l (λ y i. q y (there i)) r.0, rising_back l (λ y i. q y (there i)) r.1)
    where
      none : (k : List A) → ((y : A) → y ∈ k → P y) → NoneBefore U (f x) (map f k) → NoneBefore O x k
      none [] s n = tt
      none (y ∷ k) s n = (λ t. n.0 (before_map y x (s y (here refl)) (q x (here refl)) t), none k (λ z i. s z (there i)) n.1)

  pub sorted_back : (l : List A) → ((y : A) → y ∈ l → P y) → Sorted U (map f l) → Sorted O l
  sorted_back [] q s = tt
  sorted_back (x ∷ l) q s = (
    λ y i. before_back x y (q x (here refl)) (q y (there i)) (s.0 (f y) (in_map f i)),
    sorted_back l (λ y i. q y (there i)) s.1,
  )

  -- The images of the first m are the first m images.
  pub first_map : {m : ℕ} {Q : A → Type 0} {l : List A} → ((z : A) → Q z → P z) → First O m Q l → First U m (Image f Q) (map f l)
  first_map {m} {Q} {l} within h = record {
    sorted = sorted_map O U f before_map l (λ x i. within x (h.sound i)) h.sorted;
    sound = λ k. let (y, i, e) = in_map_cases f l k in record { from = y; inside = h.sound i; is = sym e };
    short = omega (arith, length-map l f, h.short);
    complete = λ z r. elim (h.complete r.from r.inside) [
      | inl i ↦ inl (in_cast r.is (in_map f i))
      | inr c ↦ inr (rw r.is (full r.from (within r.from r.inside) c))
    ];
  }
    where
      full : (z : A) → P z → FullBefore O m l z → FullBefore U m (map f l) (f z)
      full z p c = record {
        full = length-map l f ∙ c.full;
        ahead = λ k. let (y, i, e) = in_map_cases f l k in rw e at (before_map y z (within y (h.sound i)) p (c.ahead i));
      }
