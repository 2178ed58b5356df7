-- Strict total orders that compute: of numbers, of two parts of which the first decides before the second, of lists.
use Rattle.std.proofs.Common.{sym, ap, ◌∙◌, inl, inr, arith, ◌<◌, ◌≡◌, ◌∷◌}
use Rattle.std.specs.Prelude.{◌⊎◌}
use Prim.Native.Nat.{zero-le, suc-le-suc}
use Rattle.definitions.specs.Basics.{ℕ, zero, suc, compare, Ordering, ordering_lt, ordering_eq, ordering_gt, refl, List, []}
use Rattle.definitions.specs.Plans.{then_by, compare_beds}

-- The answer of a comparison, with its proof.
pub data View {A : Type 0} (Lt : A → A → Type 0) (x y : A) : Ordering → Type 0 where
  before : Lt x y → View Lt x y ordering_lt
  equal : x ≡ y → View Lt x y ordering_eq
  after : Lt y x → View Lt x y ordering_gt

-- A strict total order, decided by a three-way comparison.
pub record Order (A : Type 0) : Type 1 where
  pub cmp : A → A → Ordering
  pub Lt : A → A → Type 0
  pub view : (x y : A) → View Lt x y (cmp x y)
  pub irrefl : {x : A} → Lt x x → ⊥
  pub trans : {x y z : A} → Lt x y → Lt y z → Lt x z

-- Numbers.
suc_view : {m n : ℕ} {o : Ordering} → View ◌<◌ m n o → View ◌<◌ (suc m) (suc n) o
suc_view (before h) = before (suc-le-suc h)
suc_view (equal e) = equal (ap suc e)
suc_view (after h) = after (suc-le-suc h)

pub ℕ-view : (m n : ℕ) → View ◌<◌ m n (compare m n)
ℕ-view zero zero = rw Prim.Native.Nat.compare.zero-zero (equal refl)
ℕ-view zero (suc n) = rw Prim.Native.Nat.compare.zero-suc (before (suc-le-suc zero-le))
ℕ-view (suc m) zero = rw Prim.Native.Nat.compare.suc-zero (after (suc-le-suc zero-le))
ℕ-view (suc m) (suc n) = rw Prim.Native.Nat.compare.suc-suc (suc_view (ℕ-view m n))

abbrev pub ℕ-order : Order ℕ
ℕ-order = record { cmp = compare; Lt = ◌<◌; view = ℕ-view; irrefl = λ {x} h. omega arith; trans = λ {x} {y} {z} h k. omega arith }

-- The order of things by a part that determines them.
abbrev pub order_by : {A B : Type 0} (O : Order B) (part : A → B) → ((x y : A) → part x ≡ part y → x ≡ y) → Order A
order_by {A} O part determines = record {
  cmp = λ x y. O.cmp (part x) (part y);
  Lt = λ x y. O.Lt (part x) (part y);
  view = λ x y. view_by x y (O.view (part x) (part y));
  irrefl = O.irrefl;
  trans = O.trans;
}
  where
    view_by : (x y : A) {o : Ordering} → View O.Lt (part x) (part y) o → View (λ x y. O.Lt (part x) (part y)) x y o
    view_by x y (before h) = before h
    view_by x y (equal e) = equal (determines x y e)
    view_by x y (after h) = after h

-- The lexicographic order of pairs: the first part decides, or where it finds no difference the second.
module _ {A B : Type 0} (O : Order A) (Lt : B → B → Type 0) where
  abbrev pub Lex : A × B → A × B → Type 0
  Lex p q = O.Lt p.0 q.0 ⊎ ((p.0 ≡ q.0) × Lt p.1 q.1)

  pub lex_view : (p q : A × B) {o : Ordering} → View Lt p.1 q.1 o → View Lex p q (then_by (O.cmp p.0 q.0) o)
  lex_view p q second = go (O.view p.0 q.0) second
    where
      go : {f s : Ordering} → View O.Lt p.0 q.0 f → View Lt p.1 q.1 s → View Lex p q (then_by f s)
      go (before h) v = before (inl h)
      go (equal e) (before h) = before (inr (e, h))
      go (equal e) (equal d) = equal (λ i. (e i, d i))
      go (equal e) (after h) = after (inr (sym e, h))
      go (after h) v = after (inl h)

  pub lex_trans : (p q r : A × B) → (Lt p.1 q.1 → Lt q.1 r.1 → Lt p.1 r.1) → Lex p q → Lex q r → Lex p r
  lex_trans p q r second (inl h) (inl k) = inl (O.trans h k)
  lex_trans p q r second (inl h) (inr k) = inl (rw k.0 at h)
  lex_trans p q r second (inr h) (inl k) = inl (rw h.0 k)
  lex_trans p q r second (inr h) (inr k) = inr (h.0 ∙ k.0, second h.1 k.1)

abbrev pub lexicographic : {A B : Type 0} → Order A → Order B → Order (A × B)
lexicographic O U = record {
  cmp = λ p q. then_by (O.cmp p.0 q.0) (U.cmp p.1 q.1);
  Lt = Lex O U.Lt;
  view = λ p q. lex_view O U.Lt p q (U.view p.1 q.1);
  irrefl = λ h. elim h [ inl k ↦ O.irrefl k | inr k ↦ U.irrefl k.1 ];
  trans = λ {x} {y} {z} h k. lex_trans O U.Lt x y z U.trans h k;
}

-- The lexicographic order of lists of numbers: head and tail as a pair, and a list comes before all that it begins.
abbrev pub ListLt : List ℕ → List ℕ → Type 0
ListLt [] [] = ⊥
ListLt [] (y ∷ ys) = Unit {0}
ListLt (x ∷ xs) [] = ⊥
ListLt (x ∷ xs) (y ∷ ys) = (x < y) ⊎ ((x ≡ y) × ListLt xs ys)

cons_view : {x y : ℕ} {xs ys : List ℕ} {o : Ordering} → View (Lex ℕ-order ListLt) (x, xs) (y, ys) o → View ListLt (x ∷ xs) (y ∷ ys) o
cons_view (before h) = before h
cons_view (equal e) = equal (ap {B = List ℕ} (λ p. p.0 ∷ p.1) e)
cons_view (after h) = after h

pub list_view : (xs ys : List ℕ) → View ListLt xs ys (compare_beds xs ys)
list_view [] [] = equal refl
list_view [] (y ∷ ys) = before tt
list_view (x ∷ xs) [] = after tt
list_view (x ∷ xs) (y ∷ ys) = cons_view (lex_view ℕ-order ListLt (x, xs) (y, ys) (list_view xs ys))

pub list_irrefl : (xs : List ℕ) → ListLt xs xs → ⊥
list_irrefl [] h = h
list_irrefl (x ∷ xs) (inl h) = omega arith
list_irrefl (x ∷ xs) (inr h) = list_irrefl xs h.1

pub list_trans : (xs ys zs : List ℕ) → ListLt xs ys → ListLt ys zs → ListLt xs zs
list_trans [] [] zs h k = absurd h
list_trans [] (y ∷ ys) [] h k = absurd k
list_trans [] (y ∷ ys) (z ∷ zs) h k = tt
list_trans (x ∷ xs) [] zs h k = absurd h
list_trans (x ∷ xs) (y ∷ ys) [] h k = absurd k
list_trans (x ∷ xs) (y ∷ ys) (z ∷ zs) h k = lex_trans ℕ-order ListLt (x, xs) (y, ys) (z, zs) (list_trans xs ys zs) h k

abbrev pub list_order : Order (List ℕ)
list_order = record {
  cmp = compare_beds;
  Lt = ListLt;
  view = list_view;
  irrefl = λ {x} h. list_irrefl x h;
  trans = λ {x} {y} {z} h k. list_trans x y z h k;
}
