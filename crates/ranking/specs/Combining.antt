-- Things made of two independent parts: the first m of all combinations need only the first m of each part.
-- (Theorems that rest on these stand in `proofs/Combining.antt`.)
use Rattle.std.proofs.Common.{ap, ◌∙◌, ◌≡◌, ◌∷◌}
use Rattle.std.proofs.Math.Logic.{inl, inr}
use Rattle.definitions.specs.Basics.{refl, List, [], map, flat_map}
use Rattle.lists.specs.Members.{◌∈◌, ◌⊆◌, Distinct, Enumerates, distinct_append, distinct_map, here, there, here_or_there, none_in_nil, in_append_left, in_append_right, in_append_cases, in_map, in_map_cases, in_cast}
use Rattle.ranking.specs.Orders.{Order}

module _ {A B C : Type 0} (combine : A → B → C) where
  -- c combines a part in P with a part in Q.
  pub record Combined (P : A → Type 0) (Q : B → Type 0) (c : C) : Type 0 where
    pub left : A
    pub right : B
    pub in_left : P left
    pub in_right : Q right
    pub is : c ≡ combine left right

  pub combination : {P : A → Type 0} {Q : B → Type 0} (a : A) (b : B) → P a → Q b → Combined P Q (combine a b)
  combination a b p q = record { left = a; right = b; in_left = p; in_right = q; is = refl }

  pub combined_map : {P S : A → Type 0} {Q T : B → Type 0} → P ⊆ S → Q ⊆ T → Combined P Q ⊆ Combined S T
  combined_map f g c r = record { left = r.left; right = r.right; in_left = f r.left r.in_left; in_right = g r.right r.in_right; is = r.is }

  -- All combinations of an element of each list.
  abbrev pub cross : List A → List B → List C
  cross xs ys = flat_map (λ a. map (combine a) ys) xs

  cross_out : (xs : List A) (ys : List B) (c : C) → c ∈ cross xs ys → Combined (λ a. a ∈ xs) (λ b. b ∈ ys) c
  unfolding flat_map
  cross_out [] ys c k = absurd (none_in_nil k)
  cross_out (a ∷ xs) ys c k = elim (in_append_cases (map (combine a) ys) k) [
    | inl t ↦ (let (b, i, e) = in_map_cases (combine a) ys t in rw (← e) (combination a b (here refl) i))
    | inr t ↦ combined_map (λ x i. there i) (λ y j. j) c (cross_out xs ys c t)
  ]

  cross_in : (xs : List A) (ys : List B) {a : A} {b : B} → a ∈ xs → b ∈ ys → combine a b ∈ cross xs ys
  unfolding flat_map
  cross_in [] ys i j = absurd (none_in_nil i)
  cross_in (x ∷ xs) ys {a} {b} i j = elim (here_or_there i) [
    | inl e ↦ in_append_left (cross xs ys) (in_cast (ap (λ (y : A). combine y b) e) (in_map (combine x) j))
    | inr t ↦ in_append_right (map (combine x) ys) (cross_in xs ys t j)
  ]

  -- Where the parts can be read off their combination, no combination comes twice.
  abbrev pub Injective : (A → Type 0) → (B → Type 0) → Type 0
  Injective P Q = (a x : A) (b y : B) → P a → P x → Q b → Q y → combine a b ≡ combine x y → (a ≡ x) × (b ≡ y)

  cross_distinct : (xs : List A) (ys : List B) → Injective (λ a. a ∈ xs) (λ b. b ∈ ys) → Distinct xs → Distinct ys → Distinct (cross xs ys)
  unfolding flat_map
  cross_distinct [] ys injective d e = tt
  cross_distinct (a ∷ xs) ys injective d e = distinct_append (map (combine a) ys) (cross xs ys)
      (distinct_map (combine a) ys (λ b y i j q. (injective a a b y (here refl) (here refl) i j q).1) e)
      (cross_distinct xs ys (λ x z b y i j. injective x z b y (there i) (there j)) d.1 e)
      (λ c k t. let (b, j, q) = in_map_cases (combine a) ys k in let r = cross_out xs ys c t in
      d.0 (in_cast (injective a r.left b r.right (here refl) (there r.in_left) j r.in_right (q ∙ r.is)).0 r.in_left))

  pub cross_enumerates : {xs : List A} {ys : List B} → Injective (λ a. a ∈ xs) (λ b. b ∈ ys) → Distinct xs → Distinct ys
      → Enumerates (Combined (λ a. a ∈ xs) (λ b. b ∈ ys)) (cross xs ys)
  cross_enumerates {xs} {ys} injective d e = record {
    distinct = cross_distinct xs ys injective d e;
    only = cross_out xs ys;
    every = λ c r. in_cast r.is (cross_in xs ys r.in_left r.in_right);
  }

-- A larger part makes a larger combination.
pub record Rising {A B C : Type 0} (O : Order A) (U : Order B) (W : Order C) (combine : A → B → C) (P : A → Type 0) (Q : B → Type 0) : Type 0 where
  pub in_left : (a x : A) (b : B) → P a → P x → Q b → O.Lt a x → W.Lt (combine a b) (combine x b)
  pub in_right : (a : A) (b y : B) → P a → Q b → Q y → U.Lt b y → W.Lt (combine a b) (combine a y)
