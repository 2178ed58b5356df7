-- Laws of `every` and `any`: of an element, of parts, of two tests at once, of images; numbers that a list contains.
use Rattle.std.proofs.Common.{sym, ap, ap₂, ◌∙◌, inl, inr, true≢false, eqb-true, eq-eqb, ◌<◌, ◌≡◌, ◌&&◌, ◌||◌, ◌∷◌, ◌++◌}
use Rattle.std.specs.Prelude.{◌⊎◌, ◌↔◌}
use Rattle.std.proofs.Math.Bool.{and-false, and_assoc}
use Rattle.std.proofs.Math.Option.{none-ne-some}
use Rattle.std.proofs.lemmas.Bool.{not-false}
use Rattle.definitions.specs.Basics.{ℕ, zero, suc, refl, Bool, true, false, not, Option, none, some}
use Rattle.definitions.specs.Basics.{List, [], map, flat_map, length, get_or, eqb, every, every_two, any, contains}
use Rattle.lists.specs.Tests.{both, join, same_answer}
use Rattle.lists.specs.Members.{◌∈◌, here, there, here_or_there, none_in_nil, get_d_in}

module _ {A : Type 0} (test : A → Bool) where
  -- Every element passes: each does.
  pub every_in : (l : List A) → every test l ≡ true → {x : A} → x ∈ l → test x ≡ true
  every_in [] e k = absurd (none_in_nil k)
  every_in (y ∷ l) e k = elim (here_or_there k) [ inl q ↦ rw q (both (test y) e).0 | inr t ↦ every_in l (both (test y) e).1 t ]

  pub every_all : (l : List A) → ((x : A) → x ∈ l → test x ≡ true) → every test l ≡ true
  every_all [] h = refl
  every_all (x ∷ l) h = join (h x (here refl)) (every_all l (λ y k. h y (there k)))

  pub every_at : (l : List A) (i : ℕ) (d : A) → i < length l → every test l ≡ true → test (get_or l i d) ≡ true
  every_at l i d h passes = every_in l passes (get_d_in l i d h)

  -- Parts of a list.
  pub every_concat : (l m : List A) → every test (l ++ m) ≡ (every test l && every test m)
  every_concat [] m = refl
  every_concat (x ∷ l) m = ap (λ b. test x && b) (every_concat l m) ∙ sym (and_assoc (test x) (every test l) (every test m))

  pub every_append : (l m : List A) → every test l ≡ true → every test m ≡ true → every test (l ++ m) ≡ true
  every_append l m h g = every_concat l m ∙ join h g

  pub every_split : (l m : List A) → every test (l ++ m) ≡ true → (every test l ≡ true) × (every test m ≡ true)
  every_split l m h = both (every test l) (sym (every_concat l m) ∙ h)

  -- Some element passes, or none does.
  pub any_in : (l : List A) {x : A} → x ∈ l → test x ≡ true → any test l ≡ true
  any_in [] k e = absurd (none_in_nil k)
  any_in (y ∷ l) {x} k e = go (test y) refl (here_or_there k) (λ t. any_in l t e)
    where
      go : (b : Bool) → test y ≡ b → (x ≡ y) ⊎ (x ∈ l) → (x ∈ l → any test l ≡ true) → (b || any test l) ≡ true
      go true q h ih = refl
      go false q (inl s) ih = absurd (true≢false (sym e ∙ ap test s ∙ q))
      go false q (inr t) ih = ih t

  pub any_out : (l : List A) → any test l ≡ true → (x : A) × (x ∈ l) × (test x ≡ true)
  any_out [] e = absurd (true≢false (sym e))
  any_out (y ∷ l) e = go (test y) refl e (any_out l)
    where
      go : (b : Bool) → test y ≡ b → (b || any test l) ≡ true → (any test l ≡ true → (x : A) × (x ∈ l) × (test x ≡ true)) → (x : A) × (x ∈ y ∷ l) × (test x ≡ true)
      go true q h ih = (y, here refl, q)
      go false q h ih = let (x, k, p) = ih h in (x, there k, p)

  -- None passes a test where every element fails it.
  pub none_passes : (l : List A) → not (any test l) ≡ every (λ x. not (test x)) l
  none_passes [] = refl
  none_passes (x ∷ l) = go (test x) (none_passes l)
    where
      go : (b : Bool) → not (any test l) ≡ every (λ y. not (test y)) l → not (b || any test l) ≡ (not b && every (λ y. not (test y)) l)
      go true ih = refl
      go false ih = ih

  pub any_false : (l : List A) → (any test l ≡ false) ↔ ((x : A) → x ∈ l → test x ≡ false)
  any_false [] = (λ e x k. absurd (none_in_nil k), λ h. refl)
  any_false (x ∷ l) = let ih = any_false l in (
    λ e y k. elim (here_or_there k) [ inl q ↦ rw q (neither (test x) (any test l) e).0 | inr t ↦ ih.0 (neither (test x) (any test l) e).1 y t ],
    λ h. rw (h x (here refl)) (ih.1 (λ y t. h y (there t))),
  )
    where
      neither : (a b : Bool) → (a || b) ≡ false → (a ≡ false) × (b ≡ false)
      neither true b e = absurd (true≢false e)
      neither false b e = (refl, e)

-- Two tests.
module _ {A : Type 0} (test other : A → Bool) where
  -- Every element passes both where every one passes each.
  pub every_both : (l : List A) → every (λ x. test x && other x) l ≡ (every test l && every other l)
  every_both [] = refl
  every_both (x ∷ l) = ap (λ b. test x && other x && b) (every_both l) ∙ swap (test x) (other x) (every test l) (every other l)
    where
      swap : (a b c d : Bool) → (a && b && (c && d)) ≡ (a && c && (b && d))
      swap true true c d = refl
      swap true false c d = sym (and-false c)
      swap false b c d = refl

  -- A weaker test.
  pub every_weaken : ((x : A) → test x ≡ true → other x ≡ true) → (l : List A) → every test l ≡ true → every other l ≡ true
  every_weaken weaker l h = every_all other l (λ x k. weaker x (every_in test l h k))

  -- Two tests that agree on all elements.
  pub every_same : (l : List A) → ((x : A) → x ∈ l → test x ≡ other x) → every test l ≡ every other l
  every_same [] same = refl
  every_same (x ∷ l) same = ap₂ (λ a b. a && b) (same x (here refl)) (every_same l (λ y k. same y (there k)))

-- Where it is not so that one passes and one fails, all do what one of them does.
pub all_or_none : {A : Type 0} (f : A → Bool) (l : List A) {x : A} → x ∈ l → (any f l && any (λ y. not (f y)) l) ≡ false → every f l ≡ f x
all_or_none f l {x} k apart = same_answer (λ all. every_in f l all k) (λ one. every_all f l (λ y i. not-false (f y) ((any_false _ l).0 (none_fails one) y i)))
  where
    none_fails : f x ≡ true → any (λ y. not (f y)) l ≡ false
    none_fails one = ap (λ b. b && any (λ y. not (f y)) l) (sym (any_in f l k one)) ∙ apart

-- A test of any two elements, in one order or the other.
pub every_two_in : {A : Type 0} (f : A → A → Bool) (l : List A) → every_two f l ≡ true → {a b : A} → a ∈ l → b ∈ l
    → (a ≡ b) ⊎ ((f a b ≡ true) ⊎ (f b a ≡ true))
every_two_in f [] e i j = absurd (none_in_nil i)
every_two_in f (x ∷ l) e i j = let (now, later) = both (every (f x) l) e in elim (here_or_there i) [
  | inl p ↦ elim (here_or_there j) [ inl q ↦ inl (p ∙ sym q) | inr k ↦ inr (inl (rw p (every_in (f x) l now k))) ]
  | inr h ↦ elim (here_or_there j) [ inl q ↦ inr (inr (rw q (every_in (f x) l now h))) | inr k ↦ every_two_in f l later h k ]
]

-- Images.
module _ {A B : Type 0} (test : B → Bool) where
  -- A test of what a function gives is a test of where it is given.
  pub every_map : (f : A → B) (l : List A) → every test (map f l) ≡ every (λ x. test (f x)) l
  every_map f [] = refl
  every_map f (x ∷ l) = ap (λ b. test (f x) && b) (every_map f l)

  pub every_image : (f : A → B) → ((x : A) → test (f x) ≡ true) → (l : List A) → every test (map f l) ≡ true
  every_image f each l = every_map f l ∙ every_all (λ x. test (f x)) l (λ x k. each x)

  pub every_flat_map : (ok : A → Bool) (f : A → List B) → ((x : A) → ok x ≡ true → every test (f x) ≡ true)
      → (l : List A) → every ok l ≡ true → every test (flat_map f l) ≡ true
  unfolding flat_map
  every_flat_map ok f each [] h = refl
  every_flat_map ok f each (x ∷ l) h =
      let (now, later) = both (ok x) h in
      every_append test (f x) (flat_map f l) (each x now) (every_flat_map ok f each l later)

-- A number at a place of a list of options, all of which pass.
pub every_some : {A : Type 0} (test : Option A → Bool) (l : List (Option A)) (i : ℕ) (a : A) → every test l ≡ true → get_or l i none ≡ some a → test (some a) ≡ true
every_some test [] i a h k = absurd (none-ne-some a k)
every_some test (x ∷ l) zero a h k = ap test (sym k) ∙ (both (test x) h).0
every_some test (x ∷ l) (suc i) a h k = every_some test l i a (both (test x) h).1 k

-- Numbers in a list of numbers.
pub contains_in : (l : List ℕ) {s : ℕ} → s ∈ l → contains l s ≡ true
contains_in l {s} k = any_in (eqb s) l k (eq-eqb s s refl)

pub contains_out : (l : List ℕ) (s : ℕ) → contains l s ≡ true → s ∈ l
contains_out l s e = let (x, k, q) = any_out (eqb s) l e in rw (eqb-true s x q) k

pub every_contains : (test : ℕ → Bool) (l : List ℕ) (q : ℕ) → every test l ≡ true → contains l q ≡ true → test q ≡ true
every_contains test l q h m = every_in test l h (contains_out l q m)
