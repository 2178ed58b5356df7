-- What is in a list, under short names; distinct lists.
use Rattle.std.proofs.Common.{sym, inl, inr, arith, ◌<◌, ◌≡◌, ◌∷◌, ◌++◌}
use mathlib.Core.List.{Memᴰ}
use Rattle.std.specs.Prelude.{drop}
use Rattle.definitions.specs.Basics.{ℕ, zero, suc, refl, List, [], map, length, get_or, take}
pub use mathlib.Core.List.Memᴰ.{cases_cons as here_or_there}
pub use mathlib.Core.List.Memᴰ.{head as here}
pub use mathlib.Core.List.Memᴰ.{not-nil as none_in_nil}
pub use mathlib.Core.List.Memᴰ.{tail as there}
pub use mathlib.Core.List.Memᴰ.{append_cases as in_append_cases}
pub use mathlib.Core.List.Memᴰ.{append_left as in_append_left}
pub use mathlib.Core.List.Memᴰ.{append_right as in_append_right}
pub use mathlib.Core.List.Memᴰ.{cast as in_cast}
pub use mathlib.Core.List.Memᴰ.{map as in_map}
pub use mathlib.Core.List.Memᴰ.{of_map as in_map_cases}

infix 50 ◌∈◌ ◌⊆◌
-- x is an element of l; what satisfies P satisfies Q.
abbrev pub ◌∈◌ : {A : Type 0} → A → List A → Type 0
x ∈ l = Memᴰ x l

abbrev pub ◌⊆◌ : {A : Type 0} → (A → Type 0) → (A → Type 0) → Type 0
◌⊆◌ {A} P Q = (z : A) → P z → Q z

-- What stands at a place of a list is in it.
pub get_d_in : {A : Type 0} (l : List A) (i : ℕ) (d : A) → i < length l → get_or l i d ∈ l
get_d_in [] i d h = absurd (omega arith)
get_d_in (x ∷ l) zero d h = here refl
get_d_in (x ∷ l) (suc i) d h = there (get_d_in l i d (omega arith))

-- What is taken from a list is in it.
pub in_take : {A : Type 0} (n : ℕ) (l : List A) {z : A} → z ∈ take n l → z ∈ l
in_take zero l h = absurd (none_in_nil h)
in_take (suc n) [] h = h
in_take (suc n) (x ∷ l) h = elim (here_or_there h) [ inl e ↦ here e | inr t ↦ there (in_take n l t) ]

pub in_drop : {A : Type 0} (n : ℕ) (l : List A) {z : A} → z ∈ drop n l → z ∈ l
in_drop zero l h = h
in_drop (suc n) [] h = h
in_drop (suc n) (x ∷ l) h = there (in_drop n l h)

-- No element stands in the list twice.
abbrev pub Distinct : {A : Type 0} → List A → Type 0
Distinct [] = Unit {0}
Distinct (x ∷ l) = (x ∈ l → ⊥) × Distinct l

-- The list holds what satisfies P, each thing once.
pub record Enumerates {A : Type 0} (P : A → Type 0) (l : List A) : Type 0 where
  pub distinct : Distinct l
  pub only : (z : A) → z ∈ l → P z
  pub every : (z : A) → P z → z ∈ l

-- Distinct lists one after the other, where they share nothing; the images of a distinct list, where no two coincide.
pub distinct_append : {A : Type 0} (l k : List A) → Distinct l → Distinct k → ((z : A) → z ∈ l → z ∈ k → ⊥) → Distinct (l ++ k)
distinct_append [] k d e apart = e
distinct_append (x ∷ l) k d e apart = (
  λ h. elim (in_append_cases l h) [ inl t ↦ d.0 t | inr t ↦ apart x (here refl) t ],
  distinct_append l k d.1 e (λ z a b. apart z (there a) b),
)

pub distinct_map : {A B : Type 0} (f : A → B) (l : List A) → ((x y : A) → x ∈ l → y ∈ l → f x ≡ f y → x ≡ y) → Distinct l → Distinct (map f l)
distinct_map f [] injective d = tt
distinct_map f (x ∷ l) injective d = (
  λ h. let (y, k, e) = in_map_cases f l h in d.0 (in_cast (injective x y (here refl) (there k) (sym e)) k),
  distinct_map f l (λ y z i j. injective y z (there i) (there j)) d.1,
)
