-- The last of a list.
use Rattle.std.specs.Prelude.{◌≡◌, refl, ◌≤◌}
use Rattle.std.proofs.Common.{sym, inl, inr, arith, ltb-true, ◌<◌, ◌∷◌, ◌++◌}
use Rattle.std.proofs.lemmas.Bool.{false≢true}
use Rattle.std.proofs.Math.Option.{none-ne-some, some-injective}
use Rattle.definitions.specs.Basics.{ℕ, true, false, none, some, option_get_or, List, [], is_empty, ltb, every, every_two}
use Rattle.definitions.specs.Parents.{last}
use Rattle.lists.specs.Tests.{both}
use Rattle.lists.specs.Members.{◌∈◌, here, there, here_or_there, none_in_nil}
use Rattle.lists.specs.Every.{every_in}

-- The last of a list that ends so; of an empty list; of one that is not.
pub last_is : (l : List ℕ) (x : ℕ) → last (l ++ x ∷ []) ≡ some x
last_is [] x = refl
last_is (y ∷ []) x = refl
last_is (y ∷ z ∷ l) x = last_is (z ∷ l) x

pub last_none : (l : List ℕ) → is_empty l ≡ true → last l ≡ none
last_none [] e = refl
last_none (x ∷ l) e = absurd (false≢true e)

pub last_some : (l : List ℕ) (d : ℕ) → is_empty l ≡ false → last l ≡ some (option_get_or (last l) d)
last_some [] d e = absurd (false≢true (sym e))
last_some (x ∷ []) d e = refl
last_some (x ∷ y ∷ l) d e = last_some (y ∷ l) d refl

-- It is in the list, and none of a rising list is above it.
pub last_in : (l : List ℕ) {p : ℕ} → last l ≡ some p → p ∈ l
last_in [] {p} e = absurd (none-ne-some p e)
last_in (q ∷ []) {p} e = here (sym (some-injective q p e))
last_in (q ∷ x ∷ l) e = there (last_in (x ∷ l) e)

pub last_most : (l : List ℕ) → every_two ltb l ≡ true → {a : ℕ} → a ∈ l → (p : ℕ) × (last l ≡ some p) × (a ≤ p)
last_most [] up k = absurd (none_in_nil k)
last_most (q ∷ []) up k = (q, refl, elim (here_or_there k) [ inl e ↦ omega arith | inr t ↦ absurd (none_in_nil t) ])
last_most (q ∷ x ∷ l) up {a} k = elim (here_or_there k) [
  | inl e ↦ (let (p, is, most) = last_most (x ∷ l) (both (every (ltb q) (x ∷ l)) up).1 (here refl) in (p, is, omega (arith, first)))
  | inr t ↦ last_most (x ∷ l) (both (every (ltb q) (x ∷ l)) up).1 t
]
  where
    first : q < x
    first = ltb-true q x (every_in (ltb q) (x ∷ l) (both (every (ltb q) (x ∷ l)) up).0 (here refl))
