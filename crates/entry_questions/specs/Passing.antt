-- A test of all items of a list, as the library's `all` asks it, and as the definitions' `every` says it.
use Rattle.std.specs.Prelude.{◌≡◌, ◌≤◌, take, refl}
use Rattle.std.specs.List.{list_all, range_with_len}
use Rattle.std.proofs.Common.{ap, ◌∙◌, get_or-take, length-take-le, add-one, ◌&&◌, ◌∷◌}
use Rattle.definitions.specs.Basics.{ℕ, zero, suc, Bool, List, [], length, get_or, numbers_from, below, every}
use Rattle.lists.specs.Below.{every_by_places, same_tests}

module _ {A : Type 0} (test : A → Bool) where
  pub all_every : (l : List A) → list_all test l ≡ every test l
  all_every [] = refl
  all_every (x ∷ l) = ap (λ b. test x && b) (all_every l)

  -- Of a list's first items: it is asked of its first places.
  pub all_places : (d : A) (l : List A) (n : ℕ) → n ≤ length l → list_all test (take n l) ≡ every (λ i. test (get_or l i d)) (below n)
  all_places d l n h =
      all_every (take n l) ∙ every_by_places test d n (take n l) (length-take-le n l h)
      ∙ same_tests _ _ n (λ i k. ap test (get_or-take n l i d k))

-- Of a range of numbers.
range_numbers : (a n : ℕ) → range_with_len a n ≡ numbers_from a n
range_numbers a zero = refl
range_numbers a (suc n) = ap (λ l. a ∷ l) (ap (λ k. range_with_len k n) (add-one a) ∙ range_numbers (suc a) n)

pub all_below : (test : ℕ → Bool) (n : ℕ) → list_all test (range_with_len 0 n) ≡ every test (below n)
all_below test n = all_every test (range_with_len 0 n) ∙ ap (every test) (range_numbers 0 n)
