-- Numbers that are each v more: what tests and lists keep of them.
use Rattle.std.specs.Prelude.{◌≡◌, refl}
use Rattle.std.proofs.Common.{ap, ap₂, ◌∙◌, map-id, zero-add, arith, ltb-true, lt-ltb, eqb-true, eq-eqb, ◌+◌, ◌<◌, ◌&&◌, ◌||◌, ◌∷◌, ◌++◌}
use Rattle.definitions.specs.Basics.{ℕ, zero, suc, min, Bool, true, false, cond, List, [], map, length, eqb, ltb, numbers_from, below, every_two, keep, contains}
use Rattle.definitions.specs.Sheets.{lowest}
use Rattle.lists.specs.Tests.{same_answer}
use Rattle.lists.specs.Members.{◌∈◌, here, there}
use Rattle.lists.specs.Every.{every_map, every_same}
use Rattle.lists.specs.Maps.{map_same}

abbrev pub shifted : ℕ → List ℕ → List ℕ
shifted v l = map (λ s. v + s) l

pub not_shifted : (l : List ℕ) → shifted 0 l ≡ l
not_shifted l = map_same (λ s. 0 + s) (λ s. s) l (λ s k. zero-add s) ∙ map-id l

-- ---- tests of images, where what a function gives passes one test as what it is given of passes another

module _ {A B : Type 0} (h : A → B) where
  pub keep_map : (f : B → Bool) (g : A → Bool) (l : List A) → ((x : A) → x ∈ l → f (h x) ≡ g x) → keep f (map h l) ≡ map h (keep g l)
  keep_map f g [] same = refl
  keep_map f g (x ∷ l) same = rw (same x (here refl), keep_map f g l (λ y k. same y (there k))) (go (g x))
    where
      go : (b : Bool) → cond b (h x ∷ map h (keep g l)) (map h (keep g l)) ≡ map h (cond b (x ∷ keep g l) (keep g l))
      go true = refl
      go false = refl

  pub every_two_map : (f : B → B → Bool) (g : A → A → Bool) (l : List A) → ((x y : A) → x ∈ l → y ∈ l → f (h x) (h y) ≡ g x y) → every_two f (map h l) ≡ every_two g l
  every_two_map f g [] same = refl
  every_two_map f g (x ∷ l) same = ap₂ ◌&&◌
      (every_map (f (h x)) h l ∙ every_same (λ y. f (h x) (h y)) (g x) l (λ y k. same x y (here refl) (there k)))
      (every_two_map f g l (λ y z i k. same y z (there i) (there k)))

-- ---- numbers

module _ (v : ℕ) where
  pub ltb_shifted : (a b : ℕ) → ltb (v + a) (v + b) ≡ ltb a b
  ltb_shifted a b = same_answer (λ e. lt-ltb a b (omega (arith, ltb-true (v + a) (v + b) e))) (λ e. lt-ltb (v + a) (v + b) (omega (arith, ltb-true a b e)))

  pub eqb_shifted : (a b : ℕ) → eqb (v + a) (v + b) ≡ eqb a b
  eqb_shifted a b = same_answer (λ e. eq-eqb a b (omega (arith, eqb-true (v + a) (v + b) e))) (λ e. eq-eqb (v + a) (v + b) (omega (arith, eqb-true a b e)))

  pub contains_shifted : (l : List ℕ) (q : ℕ) → contains (shifted v l) (v + q) ≡ contains l q
  contains_shifted [] q = refl
  contains_shifted (s ∷ l) q = ap₂ ◌||◌ (eqb_shifted q s) (contains_shifted l q)

  pub lowest_shifted : (l : List ℕ) → 0 < length l → lowest (shifted v l) ≡ v + lowest l
  lowest_shifted [] h = absurd (omega arith)
  lowest_shifted (n ∷ []) h = refl
  lowest_shifted (n ∷ m ∷ l) h = ap (min (v + n)) (lowest_shifted (m ∷ l) (omega arith)) ∙ omega arith

-- ---- the numbers below v + w

numbers_shifted : (v a n : ℕ) → numbers_from (v + a) n ≡ shifted v (numbers_from a n)
numbers_shifted v a zero = refl
numbers_shifted v a (suc n) =
    let next : suc (v + a) ≡ v + suc a = omega arith in
    ap (λ (l : List ℕ). (v + a) ∷ l) (ap (λ k. numbers_from k n) next ∙ numbers_shifted v (suc a) n)

numbers_parts : (a v w : ℕ) → numbers_from a (v + w) ≡ numbers_from a v ++ numbers_from (v + a) w
numbers_parts a zero w = rw (zero-add w, zero-add a)
numbers_parts a (suc v) w =
    let more : suc v + w ≡ suc (v + w) = omega arith in
    let from : v + suc a ≡ suc v + a = omega arith in
    ap (numbers_from a) more ∙ ap (λ (l : List ℕ). a ∷ l) (numbers_parts (suc a) v w ∙ ap (λ k. numbers_from (suc a) v ++ numbers_from k w) from)

-- They are those below v, and those below w, each v more.
pub below_parts : (v w : ℕ) → below (v + w) ≡ below v ++ shifted v (below w)
below_parts v w = numbers_parts 0 v w ∙ ap (λ (l : List ℕ). below v ++ l) (numbers_shifted v 0 w)
