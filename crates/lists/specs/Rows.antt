-- Lists one after the other in one list: where each begins, and what stands there.
use Rattle.std.proofs.Common.{sym, ◌∙◌, inl, inr, ◌+◌, ◌*◌, ◌<◌, ◌≡◌, ◌∷◌, ◌++◌}
use Rattle.std.proofs.Math.Path.{ap}
use native.Mathlib.Omega.{arith}
use Rattle.std.specs.Prelude.{◌≤◌}
use Rattle.std.proofs.Math.ListN.{length-append, get_or-append}
use Rattle.std.proofs.Math.Seq.{get_or-append-add}
use Rattle.definitions.specs.Basics.{ℕ, zero, suc, refl, List, [], map, flat_map, length, get_or, numbers_from, below, sum}
use Rattle.lists.specs.Members.{◌∈◌, here_or_there, none_in_nil}
use Rattle.lists.specs.Below.{below_long}
use Rattle.lists.specs.Maps.{map_same}

pub sum_each : {A : Type 0} (k : ℕ) (xs : List A) → sum (map (λ x. k) xs) ≡ length xs * k
sum_each k [] = omega arith
sum_each k (x ∷ xs) = omega (arith, sum_each k xs)

pub part_most : {A : Type 0} (f : A → ℕ) (xs : List A) {x : A} → x ∈ xs → f x ≤ sum (map f xs)
part_most f [] k = absurd (none_in_nil k)
part_most f (y ∷ xs) k = elim (here_or_there k) [ inl e ↦ omega (arith, ap f e) | inr t ↦ omega (arith, part_most f xs t) ]

numbers_shifted : {A : Type 0} (g : ℕ → A) (a n : ℕ) → map g (numbers_from (suc a) n) ≡ map (λ k. g (suc k)) (numbers_from a n)
numbers_shifted g a zero = refl
numbers_shifted {A} g a (suc n) = ap (λ (l : List A). g (suc a) ∷ l) (numbers_shifted g (suc a) n)

module _ {A B : Type 0} (f : A → List B) (d : A) where
  -- Where list i begins: behind those before it.
  abbrev pub beginning : List A → ℕ → ℕ
  beginning xs i = sum (map (λ k. length (f (get_or xs k d))) (below i))

  beginning_next : (x : A) (xs : List A) (i : ℕ) → beginning (x ∷ xs) (suc i) ≡ length (f x) + beginning xs i
  beginning_next x xs i = ap (λ (l : List ℕ). length (f x) + sum l) (numbers_shifted (λ k. length (f (get_or (x ∷ xs) k d))) 0 i)

  -- Element j of list i.
  pub row_at : (xs : List A) (i j : ℕ) (e : B) → i < length xs → j < length (f (get_or xs i d)) → get_or (flat_map f xs) (beginning xs i + j) e ≡ get_or (f (get_or xs i d)) j e
  unfolding flat_map
  row_at [] i j e h l = absurd (omega arith)
  row_at (x ∷ xs) zero j e h l =
      let same : 0 + j ≡ j = omega arith in
      ap (λ k. get_or (f x ++ flat_map f xs) k e) same ∙ get_or-append (f x) (flat_map f xs) e j l
  row_at (x ∷ xs) (suc i) j e h l =
      let same : beginning (x ∷ xs) (suc i) + j ≡ length (f x) + (beginning xs i + j) = omega (arith, beginning_next x xs i) in
      ap (λ k. get_or (f x ++ flat_map f xs) k e) same ∙ get_or-append-add (f x) (flat_map f xs) (beginning xs i + j) e ∙ row_at xs i j e (omega arith) l

  pub row_inside : (xs : List A) (i j : ℕ) → i < length xs → j < length (f (get_or xs i d)) → beginning xs i + j < length (flat_map f xs)
  unfolding flat_map
  row_inside [] i j h l = absurd (omega arith)
  row_inside (x ∷ xs) zero j h l = omega (arith, length-append (f x) (flat_map f xs))
  row_inside (x ∷ xs) (suc i) j h l = omega (arith, length-append (f x) (flat_map f xs), beginning_next x xs i, row_inside xs i j (omega arith) l)

  -- All of them end where one more would begin.
  pub rows_long : (xs : List A) → length (flat_map f xs) ≡ beginning xs (length xs)
  unfolding flat_map
  rows_long [] = refl
  rows_long (x ∷ xs) = omega (arith, length-append (f x) (flat_map f xs), rows_long xs, beginning_next x xs (length xs))

  -- Lists of one length.
  module _ (width : ℕ) (wide : (x : A) → length (f x) ≡ width) where
    pub beginning_wide : (xs : List A) (i : ℕ) → beginning xs i ≡ i * width
    beginning_wide xs i =
        ap sum (map_same (λ k. length (f (get_or xs k d))) (λ k. width) (below i) (λ k m. wide (get_or xs k d)))
        ∙ sum_each width (below i) ∙ ap (λ n. n * width) (below_long i)

    pub wide_long : (xs : List A) → length (flat_map f xs) ≡ length xs * width
    wide_long xs = rows_long xs ∙ beginning_wide xs (length xs)

    pub wide_at : (xs : List A) (i j : ℕ) (e : B) → i < length xs → j < width → get_or (flat_map f xs) (i * width + j) e ≡ get_or (f (get_or xs i d)) j e
    wide_at xs i j e h l =
        ap (λ k. get_or (flat_map f xs) (k + j) e) (sym (beginning_wide xs i)) ∙ row_at xs i j e h (omega (arith, wide (get_or xs i d)))
