-- Sums of entries of which some may be forbidden: in parts, after renaming, and in any order.
use Rattle.std.proofs.Common.{sym, ap, ap₂, ◌∙◌, arith, zero-add, add-zero, eqb-true, ne_eqb, ◌+◌, ◌<◌, ◌≡◌, ◌&&◌, ◌∷◌, ◌++◌}
use Rattle.std.proofs.Math.Option.{none-ne-some, some-injective}
use Rattle.std.proofs.lemmas.Bool.{eqb-false, not-true}
use Rattle.std.specs.Prelude.{◌≤◌}
use Rattle.definitions.specs.Basics.{ℕ, zero, suc, refl, Bool, true, false, not, cond, Option, none, some, option_map, option_get_or, bind}
use Rattle.definitions.specs.Basics.{List, [], map, length, eqb, sum, numbers_from, keep, on_all}
use Rattle.lists.specs.Members.{◌∈◌, here, there}
use Rattle.lists.specs.Keep.{keep_out, keep_keep, keep_same}
use Rattle.lists.specs.Maps.{map_same}
use Rattle.lists.specs.Below.{numbers_enumerate}
use Rattle.ranking.specs.Occurrences.{Tests}

-- The sum of two costs, forbidden where one of them is.
abbrev pub plus : Option ℕ → Option ℕ → Option ℕ
plus none b = none
plus (some x) none = none
plus (some x) (some y) = some (x + y)

pub plus_assoc : (a b c : Option ℕ) → plus a (plus b c) ≡ plus (plus a b) c
plus_assoc none b c = refl
plus_assoc (some x) none c = refl
plus_assoc (some x) (some y) none = refl
plus_assoc (some x) (some y) (some z) = ap {B = Option ℕ} some (omega arith)

pub zero_plus : (o : Option ℕ) → plus (some 0) o ≡ o
zero_plus none = refl
zero_plus (some n) = ap {B = Option ℕ} some (zero-add n)

pub plus_zero : (o : Option ℕ) → plus o (some 0) ≡ o
plus_zero none = refl
plus_zero (some n) = ap {B = Option ℕ} some (add-zero n)

pub plus_none : (o : Option ℕ) → plus o none ≡ none
plus_none none = refl
plus_none (some n) = refl

-- A cost with what costs nothing or is forbidden.
pub plus_if : (o : Option ℕ) (b : Bool) → plus o (cond b (some 0) none) ≡ cond b o none
plus_if o true = plus_zero o
plus_if o false = plus_none o

plus_swap : (a b c : Option ℕ) → plus a (plus b c) ≡ plus b (plus a c)
plus_swap none none c = refl
plus_swap none (some y) c = refl
plus_swap (some x) none c = refl
plus_swap (some x) (some y) none = refl
plus_swap (some x) (some y) (some z) = ap {B = Option ℕ} some (omega arith)

pub plus_pairs : (a b c d : Option ℕ) → plus (plus a b) (plus c d) ≡ plus (plus a c) (plus b d)
plus_pairs a b c d = sym (plus_assoc a b (plus c d)) ∙ ap (plus a) (plus_swap b c d) ∙ plus_assoc a c (plus b d)

-- Two costs whose sum is a number are numbers.
pub record Halves (a b : Option ℕ) (n : ℕ) : Type 0 where
  pub x : ℕ
  pub y : ℕ
  pub left : a ≡ some x
  pub right : b ≡ some y
  pub whole : n ≡ x + y

pub halves : (a b : Option ℕ) (n : ℕ) → plus a b ≡ some n → Halves a b n
halves none b n e = absurd (none-ne-some n e)
halves (some x) none n e = absurd (none-ne-some n e)
halves (some x) (some y) n e = record { x = x; y = y; left = refl; right = refl; whole = cc }

-- The sum of the entries of some tables.
abbrev pub sum_over : {A : Type 0} → (A → Option ℕ) → List A → Option ℕ
sum_over entry l = option_map sum (on_all entry l)

pub sum_cons : {A : Type 0} (entry : A → Option ℕ) (x : A) (l : List A) → sum_over entry (x ∷ l) ≡ plus (entry x) (sum_over entry l)
unfolding bind
sum_cons entry x l = go (entry x) (on_all entry l)
  where
    go : (o : Option ℕ) (r : Option (List ℕ)) → option_map sum (bind o (λ y. option_map (λ ys. y ∷ ys) r)) ≡ plus o (option_map sum r)
    go none r = refl
    go (some y) none = refl
    go (some y) (some ys) = refl

-- The sum over what passes a test and the sum over the rest.
pub sum_split : {A : Type 0} (entry : A → Option ℕ) (f : A → Bool) (l : List A)
    → sum_over entry l ≡ plus (sum_over entry (keep f l)) (sum_over entry (keep (λ x. not (f x)) l))
sum_split entry f [] = refl
sum_split {A} entry f (x ∷ l) = go (f x) (sum_split entry f l)
  where
    ins : List A
    ins = keep f l

    outs : List A
    outs = keep (λ y. not (f y)) l

    go : (b : Bool) → sum_over entry l ≡ plus (sum_over entry ins) (sum_over entry outs)
        → sum_over entry (x ∷ l) ≡ plus (sum_over entry (cond b (x ∷ ins) ins)) (sum_over entry (cond (not b) (x ∷ outs) outs))
    go true e = rw (sum_cons entry x l, sum_cons entry x ins, e) (plus_assoc (entry x) (sum_over entry ins) (sum_over entry outs))
    go false e = rw (sum_cons entry x l, sum_cons entry x outs, e) (plus_swap (entry x) (sum_over entry ins) (sum_over entry outs))

-- The sums over what has each key, one after the other, add up to the sum over all.
module _ {A : Type 0} (entry : A → Option ℕ) (key : A → ℕ) where
  abbrev sum_at : List A → ℕ → ℕ
  sum_at l k = option_get_or (sum_over entry (keep (λ x. eqb (key x) k) l)) 0

  -- What has a later key stands among what does not have this one.
  later_at : (a : ℕ) (l : List A) (k : ℕ) → a < k → sum_at l k ≡ sum_at (keep (λ x. not (eqb (key x) a)) l) k
  later_at a l k h = ap (λ m. option_get_or (sum_over entry m) 0)
      (keep_same _ _ l (λ x i. go (key x) (eqb (key x) a) refl) ∙ sym (keep_keep (λ x. eqb (key x) k) (λ x. not (eqb (key x) a)) l))
    where
      go : (n : ℕ) (b : Bool) → eqb n a ≡ b → eqb n k ≡ (not b && eqb n k)
      go n true e = ne_eqb n k (λ q. omega (arith, eqb-true n a e))
      go n false e = refl

  pub sum_by_key : (a n : ℕ) (l : List A) → ((x : A) → x ∈ l → (a ≤ key x) × (key x < a + n)) → (total : ℕ) → sum_over entry l ≡ some total
      → sum (map (sum_at l) (numbers_from a n)) ≡ total
  sum_by_key a zero [] keys total e = some-injective 0 total e
  sum_by_key a zero (x ∷ l) keys total e = absurd (omega (arith, (keys x (here refl)).0, (keys x (here refl)).1))
  sum_by_key a (suc n) l keys total e =
      let parts = halves (sum_over entry (keep (λ x. eqb (key x) a) l)) (sum_over entry rest) total (sym (sum_split entry (λ x. eqb (key x) a) l) ∙ e) in
      let first : sum_at l a ≡ parts.x = ap (λ o. option_get_or o 0) parts.left in
      let same = map_same (sum_at l) (sum_at rest) (numbers_from (suc a) n) (λ k i. later_at a l k ((numbers_enumerate (suc a) n).only k i).0) in
      let others : sum (map (sum_at l) (numbers_from (suc a) n)) ≡ parts.y = ap sum same ∙ sum_by_key (suc a) n rest rest_keys parts.y parts.right in
      ap₂ (λ p q. p + q) first others ∙ sym parts.whole
    where
      rest : List A
      rest = keep (λ x. not (eqb (key x) a)) l

      rest_keys : (x : A) → x ∈ rest → (suc a ≤ key x) × (key x < suc a + n)
      rest_keys x k =
          let (i, out) = keep_out (λ x. not (eqb (key x) a)) l k in
          let (low, high) = keys x i in
          (omega (arith, low, eqb-false (key x) a (not-true _ out)), omega (arith, high))

-- The sum over what stands in front and the sum over what follows.
pub sum_append : {A : Type 0} (entry : A → Option ℕ) (l k : List A) → sum_over entry (l ++ k) ≡ plus (sum_over entry l) (sum_over entry k)
sum_append entry [] k = sym (zero_plus (sum_over entry k))
sum_append entry (x ∷ l) k =
    sum_cons entry x (l ++ k) ∙ ap (plus (entry x)) (sum_append entry l k) ∙ plus_assoc (entry x) (sum_over entry l) (sum_over entry k)
    ∙ ap (λ o. plus o (sum_over entry k)) (sym (sum_cons entry x l))

-- The sum over renamed tables whose entries are the same.
pub sum_map : {A B : Type 0} (entry : A → Option ℕ) (other : B → Option ℕ) (f : A → B) (l : List A)
    → ((x : A) → x ∈ l → other (f x) ≡ entry x) → sum_over other (map f l) ≡ sum_over entry l
sum_map entry other f [] h = refl
sum_map entry other f (x ∷ l) h =
    sum_cons other (f x) (map f l) ∙ ap₂ plus (h x (here refl)) (sum_map entry other f l (λ y k. h y (there k))) ∙ sym (sum_cons entry x l)

-- Lists that hold each thing equally often have the same sum.
module _ {A : Type 0} {alike : A → A → Bool} (tests : Tests (λ x. x) alike) (entry : A → Option ℕ) where
  -- How often x stands in a list; whether x is y, as 1 or 0.
  abbrev times : A → List A → ℕ
  times x l = length (keep (alike x) l)

  abbrev once : A → A → ℕ
  once x y = cond (alike x y) 1 0

  times_cons : (x y : A) (l : List A) → times x (y ∷ l) ≡ once x y + times x l
  times_cons x y l = go (alike x y)
    where
      go : (b : Bool) → length (cond b (y ∷ keep (alike x) l) (keep (alike x) l)) ≡ cond b 1 0 + times x l
      go true = omega arith
      go false = omega arith

  once_self : (x : A) → once x x ≡ 1
  once_self x = ap (λ b. cond b 1 0) (tests.same_alike x x refl)

  -- A list that holds x, and what is left without one x.
  record Without (x : A) (l : List A) : Type 0 where
    rest : List A
    sums : sum_over entry l ≡ plus (entry x) (sum_over entry rest)
    counts : (z : A) → times z l ≡ once z x + times z rest

  remove : (x : A) (l : List A) → 0 < times x l → Without x l
  remove x [] h = absurd (omega arith)
  remove x (y ∷ l) h = go (alike x y) refl (rw (times_cons x y l) at h) (remove x l)
    where
      go : (b : Bool) → alike x y ≡ b → 0 < cond b 1 0 + times x l → (0 < times x l → Without x l) → Without x (y ∷ l)
      go true e k ih =
          let same : x ≡ y = tests.alike_same x y e in
          record { rest = l; sums = rw same (sum_cons entry y l); counts = λ z. rw same (times_cons z y l) }
      go false e k ih = let r = ih (omega arith) in record {
        rest = y ∷ r.rest;
        sums = sum_cons entry y l ∙ ap (plus (entry y)) r.sums ∙ plus_swap (entry y) (entry x) (sum_over entry r.rest)
            ∙ ap (plus (entry x)) (sym (sum_cons entry y r.rest));
        counts = λ z. omega (arith, times_cons z y l, times_cons z y r.rest, r.counts z);
      }

  pub sum_same : (l k : List A) → ((x : A) → times x l ≡ times x k) → sum_over entry l ≡ sum_over entry k
  sum_same [] [] h = refl
  sum_same [] (x ∷ k) h = absurd (omega (arith, h x, times_cons x x k, once_self x))
  sum_same (x ∷ l) k h =
      let r = remove x k (omega (arith, h x, times_cons x x l, once_self x)) in
      sum_cons entry x l ∙ ap (plus (entry x)) (sum_same l r.rest (λ z. omega (arith, h z, times_cons z x l, r.counts z))) ∙ sym r.sums
