-- The small vocabulary of the other files: what the kit's library has, and a few functions on lists, tests and texts.
use Prim.Native.String.{String}
use Prim.Native.Char.{code}
pub use Prim.Native.Nat.Ordering.{eq as ordering_eq}
pub use Prim.Native.Nat.Ordering.{gt as ordering_gt}
pub use Prim.Native.Nat.Ordering.{lt as ordering_lt}
pub use Prim.Native.Nat.{ℕ, zero, suc, ◌+◌, ◌-◌, ◌*◌, ◌/◌, ◌%◌, ◌^◌, ◌<◌, min, compare, Ordering}
pub use Rattle.std.specs.Prelude.{◌≡◌, refl, Bool, true, false, not, ◌&&◌, ◌||◌, cond, leb, ltb, eqb, length, get_or, take, drop, replicate}
pub use Rattle.std.proofs.Math.Option.{Option, none, some, map as option_map, get_or as option_get_or}
unfoldable pub use Rattle.std.proofs.Math.Option.{bind, or_else, Option-elim as option_elim}
pub use mathlib.Core.List.{List, [], ◌∷◌, ◌++◌, map, drop_last}
unfoldable pub use mathlib.Core.List.{flatten, flat_map, filter_map}
pub use Rattle.std.proofs.lemmas.List.Edits.{sets}

-- The bytes of a text.
abbrev pub text : String → List ℕ
text String.[] = []
text (String.◌∷◌ c s) = code c ∷ text s

-- So many numbers from a on; the numbers below n.
abbrev pub numbers_from : ℕ → ℕ → List ℕ
numbers_from a zero = []
numbers_from a (suc n) = a ∷ numbers_from (suc a) n

abbrev pub below : ℕ → List ℕ
below n = numbers_from 0 n

abbrev pub sum : List ℕ → ℕ
sum [] = 0
sum (x ∷ xs) = x + sum xs

abbrev pub product : List ℕ → ℕ
product [] = 1
product (x ∷ xs) = x * product xs

module _ {A : Type 0} where
  abbrev pub is_empty : List A → Bool
  is_empty [] = true
  is_empty (x ∷ xs) = false

  abbrev pub is_some : Option A → Bool
  is_some none = false
  is_some (some a) = true

  -- Is it none, or something that passes the test?
  abbrev pub none_or : (A → Bool) → Option A → Bool
  none_or f none = true
  none_or f (some a) = f a

  -- Does every element pass the test? Does any? Do any two, an earlier and a later one?
  abbrev pub every : (A → Bool) → List A → Bool
  every f [] = true
  every f (x ∷ xs) = f x && every f xs

  abbrev pub any : (A → Bool) → List A → Bool
  any f [] = false
  any f (x ∷ xs) = f x || any f xs

  abbrev pub every_two : (A → A → Bool) → List A → Bool
  every_two f [] = true
  every_two f (x ∷ xs) = every (f x) xs && every_two f xs

  -- The elements that pass the test.
  abbrev pub keep : (A → Bool) → List A → List A
  keep f [] = []
  keep f (x ∷ xs) = cond (f x) (x ∷ keep f xs) (keep f xs)

  -- Are two lists the same, element by element?
  abbrev pub same : (A → A → Bool) → List A → List A → Bool
  same f [] [] = true
  same f [] (y ∷ ys) = false
  same f (x ∷ xs) [] = false
  same f (x ∷ xs) (y ∷ ys) = f x y && same f xs ys

  -- The results of a function on all elements; none if it has none for one of them.
  abbrev pub on_all : {B : Type 0} → (A → Option B) → List A → Option (List B)
  on_all f [] = some []
  on_all f (x ∷ xs) = bind (f x) (λ y. option_map (λ ys. y ∷ ys) (on_all f xs))

  -- The elements sorted by a comparison, by insertion.
  abbrev pub insert : (A → A → Ordering) → A → List A → List A
  insert order x [] = x ∷ []
  insert order x (y ∷ ys) = elim (order x y) [ ordering_lt ↦ x ∷ y ∷ ys | ordering_eq ↦ x ∷ y ∷ ys | ordering_gt ↦ y ∷ insert order x ys ]

  abbrev pub sort : (A → A → Ordering) → List A → List A
  sort order [] = []
  sort order (x ∷ xs) = insert order x (sort order xs)

  -- The elements that are the same as no earlier one; those of `before` count as earlier too.
  abbrev pub first_occurrences : (A → A → Bool) → List A → List A → List A
  first_occurrences alike before [] = []
  first_occurrences alike before (x ∷ xs) = elim (any (alike x) before) [
    | true ↦ first_occurrences alike before xs
    | false ↦ x ∷ first_occurrences alike (x ∷ before) xs
  ]

abbrev pub contains : List ℕ → ℕ → Bool
contains xs n = any (eqb n) xs
