-- Things made of two independent parts: the first m of all combinations need only the first m of each part.
use Rattle.std.proofs.Common.{arith}
use Rattle.std.proofs.Math.Logic.{inl, inr}
use Rattle.std.specs.Prelude.{◌↔◌, ◌≤◌}
use Rattle.std.proofs.lemmas.List.{length-map}
use Rattle.definitions.specs.Basics.{ℕ, List, map, take, sort}
use Rattle.lists.specs.Members.{◌∈◌, in_map_cases}
use Rattle.ranking.specs.Orders.{Order}
use Rattle.ranking.specs.First.{First, FullBefore, Covered, sorted_distinct}
use Rattle.ranking.proofs.First.{first_covered}
use Rattle.ranking.proofs.Sorting.{first_of}
use Rattle.ranking.specs.Mapped.{sorted_map}
use Rattle.ranking.specs.Combining.{Combined, combination, combined_map, cross, Injective, cross_enumerates, Rising}

-- Let f keep the order of what satisfies P. What comes after the first n of P has an image that comes after n images.
covered_map : {A C : Type 0} {O : Order A} {U : Order C} {P : A → Type 0} {S : C → Type 0} {m n : ℕ} {l : List A} {a : A}
    (f : A → C) → ((x y : A) → P x → P y → O.Lt x y → U.Lt (f x) (f y)) → ((x : A) → x ∈ l → S (f x))
    → m ≤ n → First O n P l → P a → FullBefore O n l a → Covered U m S (f a)
covered_map {A} {O} {U} {P} {l} {a} f rising g le h p c = record {
  things = map f l;
  rising = sorted_map O U f rising l (λ x i. h.sound i) h.sorted;
  within = λ z k. let (y, i, e) = in_map_cases f l k in rw e at (g y i);
  earlier = λ z k. let (y, i, e) = in_map_cases f l k in rw e at (rising y a (h.sound i) p (c.ahead i));
  enough = omega (arith, length-map l f, c.full);
}

module _ {A B C : Type 0} {O : Order A} {U : Order B} {W : Order C} {combine : A → B → C} {P : A → Type 0} {Q : B → Type 0}
    (rising : Rising O U W combine P Q) where
  -- The first m combinations of P and Q are those of the first of P and the first of Q.
  pub first_combined : {m j k : ℕ} {xs : List A} {ys : List B} {l : List C} → m ≤ j → m ≤ k → First O j P xs → First U k Q ys
      → First W m (Combined combine P Q) l ↔ First W m (Combined combine (λ a. a ∈ xs) (λ b. b ∈ ys)) l
  first_combined {m} {xs} {ys} {l} lej lek h g = (λ t. right.1 (left.1 t), λ t. left.0 (right.0 t))
    where
      left : First W m (Combined combine (λ a. a ∈ xs) Q) l ↔ First W m (Combined combine P Q) l
      left = first_covered (combined_map combine (λ a i. h.sound i) (λ b q. q)) (λ c r.
          let (b, q) : (b : B) × Q b = (r.right, r.in_right) in
          elim (h.complete r.left r.in_left) [
            | inl i ↦ inl (rw r.is (combination combine r.left b i q))
            | inr full ↦ inr (rw r.is (covered_map (λ a. combine a b) (λ a x p s. rising.in_left a x b p s q)
                (λ a i. combination combine a b i q) lej h r.in_left full))
          ])

      right : First W m (Combined combine (λ a. a ∈ xs) (λ b. b ∈ ys)) l ↔ First W m (Combined combine (λ a. a ∈ xs) Q) l
      right = first_covered (combined_map combine (λ a i. i) (λ b j. g.sound j)) (λ c r.
          let (a, i) : (a : A) × (a ∈ xs) = (r.left, r.in_left) in
          elim (g.complete r.right r.in_right) [
            | inl j ↦ inl (rw r.is (combination combine a r.right i j))
            | inr full ↦ inr (rw r.is (covered_map (combine a) (λ b y. rising.in_right a b y (h.sound i))
                (λ b j. combination combine a b i j) lek g r.in_right full))
          ])

  -- So sorting the combinations of two lists finds them.
  pub first_cross : {m j k : ℕ} {xs : List A} {ys : List B} → Injective combine P Q → m ≤ j → m ≤ k → First O j P xs → First U k Q ys
      → First W m (Combined combine P Q) (take m (sort W.cmp (cross combine xs ys)))
  first_cross {xs} {ys} injective lej lek h g = (first_combined lej lek h g).1 (first_of (cross_enumerates combine
      (λ a x b y i j u v. injective a x b y (h.sound i) (h.sound j) (g.sound u) (g.sound v))
      (sorted_distinct O xs h.sorted) (sorted_distinct U ys g.sorted)))
