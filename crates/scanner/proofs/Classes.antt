-- The class of a byte, from the range it was found in.
use mathlib.Core.Path.{◌≡◌, refl, ap, sym, ◌∙◌}
use mathlib.Core.List.{List, [], ◌∷◌}
use mathlib.Core.Bool.{Bool, true, false, not, ◌&&◌, and-false}
use Prim.Native.Nat.{ℕ, ◌-◌, ◌≤◌, ◌<◌}
use native.Mathlib.Decide.{dec_lt}
use native.Mathlib.Omega.{arith}
use denote.Enum.Declared.{tag_of}
use types.Run.{OneOf, miss}
use mir.Val.{has_key}
use lib.Dec.{T, leb}
use lib.ListN.{length, get_or, drop, drop_of_length-le}
use lib.Seq.{drop-cons}
use borrow.Author.Tests.{leb-true, le-leb, lt-leb, ne_eqb}
use Rattle.scanner.specs.declared.Class.{Class}
use Rattle.scanner.specs.contracts.Class.{the_type}
use Rattle.scanner.specs.declared.Class.TheVariants.{Digit, Letter, Other}
use Rattle.lists.specs.Tests.{both}
use Rattle.scanner.specs.Classes.{is_letter, class_of, first_class, NoDigit, digit_says, other_not}

-- A byte outside a range fails its test.
module _ (b : ℕ) where
  under : (low high : ℕ) → b < low → (leb low b && leb b high) ≡ false
  under low high h = simp (lt-leb low b h)

  over : (low high : ℕ) → high < b → (leb low b && leb b high) ≡ false
  over low high h = simp (lt-leb b high h, and-false)

  pub is_digit_lem : 48 ≤ b → b < 58 → class_of b ≡ Digit (b - 48)
  unfolding class_of
  is_digit_lem l h = simp (le-leb 48 b l, le-leb b 57 (omega arith))

  pub is_letter_lem : 97 ≤ b → b < 123 → class_of b ≡ Letter b
  unfolding class_of
  is_letter_lem l h =
      simp (over 48 57 (omega arith), ne_eqb b 40 (λ e. omega arith), ne_eqb b 41 (λ e. omega arith), ne_eqb b 32 (λ e. omega arith), ne_eqb b 45 (λ e. omega arith), le-leb 97 b l, le-leb b 122 (omega arith))

  pub letter_class : is_letter b ≡ true → class_of b ≡ Letter b
  letter_class h = let (l, u) = both (leb 97 b) h in is_letter_lem (leb-true 97 b l) (omega (arith, leb-true b 122 u))

  module _ (no_open_lem : b ≡ 40 → ⊥) (no_close_lem : b ≡ 41 → ⊥) (no_space_lem : b ≡ 32 → ⊥) (no_hyphen : b ≡ 45 → ⊥) (no_end_lem : b ≡ 10 → ⊥) where
    other : (leb 48 b && leb b 57) ≡ false → (leb 97 b && leb b 122) ≡ false → class_of b ≡ Other
    unfolding class_of
    other d l = simp (d, ne_eqb b 40 no_open_lem, ne_eqb b 41 no_close_lem, ne_eqb b 32 no_space_lem, ne_eqb b 45 no_hyphen, l, ne_eqb b 10 no_end_lem)

    pub is_low_lem : b < 48 → class_of b ≡ Other
    is_low_lem h = other (under 48 57 h) (under 97 122 (omega arith))

    pub is_mid : 58 ≤ b → b < 97 → class_of b ≡ Other
    is_mid l h = other (over 48 57 l) (under 97 122 h)

    pub is_high_lem : 123 ≤ b → class_of b ≡ Other
    is_high_lem l = other (over 48 57 (omega arith)) (over 97 122 l)

-- The class at a place of a slice, and behind its end.
module _ (s : List ℕ) (at : ℕ) where
  pub class_there : at < length s → class_of (get_or s at 0) ≡ first_class (drop at s)
  class_there h = sym (ap first_class (drop-cons s at 0 h))

  pub class_behind : length s ≤ at → Other ≡ first_class (drop at s)
  class_behind h = sym (ap first_class (drop_of_length-le s h))

-- In the arm for the other classes, a class is none of those that have an arm of their own.
pub apart : (c x : Class) (ks : List ℕ) → T (not (has_key ks (tag_of the_type x))) → OneOf ks (tag_of the_type c) → c ≡ x → ⊥
apart c x ks n t e = miss ks (tag_of the_type x) n (rw e at t)

pub not_digit : {c x : Class} → c ≡ x → ((d : ℕ) → c ≡ Digit d → ⊥) → NoDigit x
not_digit q none d e = none d (q ∙ e)

pub digit_small : (xs : List ℕ) {d : ℕ} → first_class xs ≡ Digit d → d ≤ 9
digit_small [] e = absurd (other_not e)
digit_small (b ∷ bs) e = (digit_says b e).small

-- Where a class other than Other stands, the slice has a byte.
pub class_within : (s : List ℕ) (at : ℕ) {c : Class} → (c ≡ Other → ⊥) → first_class (drop at s) ≡ c → at < length s
class_within s at n e = elim (dec_lt at (length s)) [ yes h ↦ h | no h ↦ absurd (n (sym (class_behind s at (omega arith) ∙ e))) ]

-- A test that is answered as another one is, in both cases.
pub answered : {answer test : Bool} → (answer ≡ true → true ≡ test) → (answer ≡ false → false ≡ test) → answer ≡ test
answered {answer = true} t f = t refl
answered {answer = false} t f = f refl
