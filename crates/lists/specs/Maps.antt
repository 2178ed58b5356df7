-- What functions give on a list, one by one, partly or in one piece.
use Rattle.std.proofs.Common.{sym, ap₂, ◌∙◌, append_assoc, append-nil, mul-le-mul, mul-le-mul_right, arith, leb-true, ◌<◌, ◌*◌, ◌^◌, ◌≡◌, ◌∷◌, ◌++◌}
use Rattle.std.proofs.Math.Path.{ap, subst⁻¹}
use Rattle.std.specs.Prelude.{◌⊎◌, ◌≤◌}
use Rattle.std.proofs.Math.Logic.{inl, inr}
use Rattle.std.proofs.lemmas.List.{map-append}
use Rattle.std.proofs.lemmas.Simd.{map-map}
use Rattle.std.proofs.Math.Option.{none-ne-some}
use Rattle.std.proofs.Math.Nat.{pow-zero, pow-succ'}
use Rattle.definitions.specs.Basics.{ℕ, zero, suc, refl, true, Option, none, some, option_elim}
use Rattle.definitions.specs.Basics.{List, [], map, length, get_or, take, drop, leb, product, flatten, flat_map, filter_map, drop_last, on_all, every}
use Rattle.lists.specs.Tests.{both}
use Rattle.lists.specs.Members.{◌∈◌, here, there, here_or_there, none_in_nil, in_cast, Distinct}

-- Two functions that agree on all elements.
module _ {A B : Type 0} where
  pub map_same : (f g : A → B) (l : List A) → ((x : A) → x ∈ l → f x ≡ g x) → map f l ≡ map g l
  map_same f g [] h = refl
  map_same f g (x ∷ l) h = ap₂ {C = List B} (λ y ys. y ∷ ys) (h x (here refl)) (map_same f g l (λ y k. h y (there k)))

  -- What stands at a place, whatever stands in for what is past the end.
  pub map_take : (f : A → B) (n : ℕ) (l : List A) → map f (take n l) ≡ take n (map f l)
  map_take f zero l = refl
  map_take f (suc n) [] = refl
  map_take f (suc n) (x ∷ l) = ap {B = List B} (λ r. f x ∷ r) (map_take f n l)

  pub map_at : (f : A → B) (l : List A) (i : ℕ) (d : A) (e : B) → i < length l → get_or (map f l) i e ≡ f (get_or l i d)
  map_at f [] i d e h = absurd (omega arith)
  map_at f (x ∷ l) zero d e h = refl
  map_at f (x ∷ l) (suc i) d e h = map_at f l i d e (omega arith)

  pub on_all_same : (f g : A → Option B) (l : List A) → ((x : A) → x ∈ l → f x ≡ g x) → on_all f l ≡ on_all g l
  on_all_same f g [] h = refl
  on_all_same f g (x ∷ l) h = rw (h x (here refl), on_all_same f g l (λ y k. h y (there k)))

-- Where the image of a list has an element and what stands before it, so has the list.
pub map_split : {A B : Type 0} (f : A → B) (l : List A) (image : List B) (y : B) (rest : List B) → map f l ≡ image ++ y ∷ rest
    → (before : List A) × (x : A) × (after : List A) × (l ≡ before ++ x ∷ after) × (map f before ≡ image) × (f x ≡ y)
map_split f [] [] y rest e = absurd (omega (arith, ap length e))
map_split f [] (z ∷ image) y rest e = absurd (omega (arith, ap length e))
map_split {B = B} f (x ∷ l) [] y rest e = ([], x, l, refl, refl, ap (λ (m : List B). get_or m 0 y) e)
map_split {A} {B} f (x ∷ l) (z ∷ image) y rest e =
    let (before, w, after, is, same, one) = map_split f l image y rest (ap (drop 1) e) in
    (x ∷ before, w, after, ap {B = List A} (λ m. x ∷ m) is, ap₂ {C = List B} (λ a m. a ∷ m) (ap (λ (m : List B). get_or m 0 y) e) same, one)

-- What a partial function gives: each result comes from an element.
module _ {A B : Type 0} (f : A → Option B) where
  pub filter_map_out : (l : List A) {b : B} → b ∈ filter_map f l → (a : A) × (a ∈ l) × (f a ≡ some b)
  unfolding filter_map option_elim
  filter_map_out [] k = absurd (none_in_nil k)
  filter_map_out (x ∷ l) {b} k = go (f x) refl k (filter_map_out l)
    where
      go : (o : Option B) → f x ≡ o → b ∈ option_elim o (filter_map f l) (λ y. y ∷ filter_map f l)
          → (b ∈ filter_map f l → (a : A) × (a ∈ l) × (f a ≡ some b)) → (a : A) × (a ∈ x ∷ l) × (f a ≡ some b)
      go none e k ih = let (a, i, q) = ih k in (a, there i, q)
      go (some y) e k ih = elim (here_or_there k) [
        | inl s ↦ (x, here refl, e ∙ ap {B = Option B} some (sym s))
        | inr t ↦ (let (a, i, q) = ih t in (a, there i, q))
      ]

  pub filter_map_in : (l : List A) {a : A} {b : B} → a ∈ l → f a ≡ some b → b ∈ filter_map f l
  unfolding filter_map option_elim
  filter_map_in [] i e = absurd (none_in_nil i)
  filter_map_in (x ∷ l) {a} {b} i e = go (f x) refl (here_or_there i) (λ t. filter_map_in l t e)
    where
      go : (o : Option B) → f x ≡ o → (a ≡ x) ⊎ (a ∈ l) → (a ∈ l → b ∈ filter_map f l) → b ∈ option_elim o (filter_map f l) (λ y. y ∷ filter_map f l)
      go none q (inl s) ih = absurd (none-ne-some b (sym q ∙ ap f (sym s) ∙ e))
      go none q (inr t) ih = ih t
      go (some y) q (inl s) ih = let r : b ≡ y = cc (ap f s) in here r
      go (some y) q (inr t) ih = there (ih t)

  pub filter_map_distinct : (l : List A) → ((x y : A) (b : B) → f x ≡ some b → f y ≡ some b → x ≡ y) → Distinct l → Distinct (filter_map f l)
  unfolding filter_map option_elim
  filter_map_distinct [] one d = tt
  filter_map_distinct (x ∷ l) one d = go (f x) refl (filter_map_distinct l one d.1)
    where
      go : (o : Option B) → f x ≡ o → Distinct (filter_map f l) → Distinct (option_elim o (filter_map f l) (λ y. y ∷ filter_map f l))
      go none e ih = ih
      go (some y) e ih = (λ k. let (a, i, q) = filter_map_out l k in d.0 (in_cast (one x a y e q) i), ih)

-- Lists in one piece.
pub flatten_append : {A : Type 0} (ls ms : List (List A)) → flatten (ls ++ ms) ≡ flatten ls ++ flatten ms
unfolding flatten
flatten_append [] ms = refl
flatten_append {A} (l ∷ ls) ms = ap (λ (r : List A). l ++ r) (flatten_append ls ms) ∙ sym (append_assoc l (flatten ls) (flatten ms))

-- What a function gives on every thing that is made of an element of each of two lists.
pub map_cross : {A B C D : Type 0} (f : A → B) (make : C → D → A) (cs : List C) (ds : List D)
    → map f (flat_map (λ c. map (make c) ds) cs) ≡ flat_map (λ c. map (λ d. f (make c d)) ds) cs
unfolding flat_map
map_cross f make [] ds = refl
map_cross f make (c ∷ cs) ds = map-append f (map (make c) ds) _ ∙ ap₂ ◌++◌ (map-map f (make c) ds) (map_cross f make cs ds)

pub flatten_map : {A B : Type 0} (f : A → List B) (l : List A) → flatten (map f l) ≡ flat_map f l
unfolding flatten flat_map
flatten_map f [] = refl
flatten_map {B} f (a ∷ l) = ap (λ (r : List B). f a ++ r) (flatten_map f l)

-- What a function gives on all elements, in one piece: of one element more, of elements that a function gave, of functions that give the same, ..
pub flat_map_snoc : {A B : Type 0} (f : A → List B) (xs : List A) (x : A) → flat_map f (xs ++ x ∷ []) ≡ flat_map f xs ++ f x
unfolding flat_map
flat_map_snoc f [] x = append-nil (f x)
flat_map_snoc {B = B} f (y ∷ xs) x = ap {B = List B} (λ l. f y ++ l) (flat_map_snoc f xs x) ∙ sym (append_assoc (f y) (flat_map f xs) (f x))

pub flat_map_map : {A B C : Type 0} (f : B → List C) (g : A → B) (l : List A) → flat_map f (map g l) ≡ flat_map (λ x. f (g x)) l
unfolding flat_map
flat_map_map f g [] = refl
flat_map_map f g (x ∷ l) = ap (λ r. f (g x) ++ r) (flat_map_map f g l)

pub flat_map_same : {A B : Type 0} (f g : A → List B) → ((x : A) → f x ≡ g x) → (l : List A) → flat_map f l ≡ flat_map g l
unfolding flat_map
flat_map_same f g same [] = refl
flat_map_same f g same (x ∷ l) = ap₂ (λ a b. a ++ b) (same x) (flat_map_same f g same l)

-- .. and of one that gives one thing each.
pub flat_map_each : {A B : Type 0} (g : A → B) (l : List A) → map g l ≡ flat_map (λ x. g x ∷ []) l
unfolding flat_map
flat_map_each g [] = refl
flat_map_each g (x ∷ l) = ap (λ r. g x ∷ r) (flat_map_each g l)

-- All but the last.
pub drop_last_lem : {A : Type 0} (ls : List A) (l : A) → drop_last (ls ++ l ∷ []) ≡ ls
drop_last_lem [] l = refl
drop_last_lem (k ∷ []) l = refl
drop_last_lem {A} (k ∷ m ∷ ls) l = ap (λ (r : List A). k ∷ r) (drop_last_lem (m ∷ ls) l)

-- A product of numbers of at most k, ..
pub product_most : {A : Type 0} (k : ℕ) (f : A → ℕ) (l : List A) → every (λ x. leb (f x) k) l ≡ true → product (map f l) ≤ k ^ length l
product_most k f [] all = omega (arith, pow-zero k)
product_most k f (x ∷ l) all =
    let (now, later) = both (leb (f x) k) all in
    subst⁻¹ (λ n. f x * product (map f l) ≤ n) (pow-succ' k (length l)) (mul-le-mul (leb-true (f x) k now) (product_most k f l later))

-- .. and of numbers that are not 0 it is not 0.
pub product_some : {A : Type 0} (f : A → ℕ) (l : List A) → ((x : A) → x ∈ l → 1 ≤ f x) → 1 ≤ product (map f l)
product_some f [] each = omega arith
product_some f (x ∷ l) each =
    let more : 1 * product (map f l) ≤ f x * product (map f l) = mul-le-mul_right (product (map f l)) (each x (here refl)) in
    omega (arith, product_some f l (λ y i. each y (there i)))
