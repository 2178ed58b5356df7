-- The reader's class of a byte, and what a class says of its byte.
use Rattle.std.specs.Prelude.{◌≤◌}
use Prim.Native.Char.{code}
use Rattle.std.proofs.Common.{arith, eq-eqb, eqb-true, leb-true, ◌-◌, ◌≡◌, ◌&&◌, ◌∷◌}
use Rattle.definitions.specs.Basics.{ℕ, refl, Bool, true, false, cond, List, [], eqb, leb}
use Rattle.definitions.specs.Layout.{is_digit}
use Rattle.lists.specs.Tests.{both}
use Rattle.scanner.specs.declared.Class.{Class}
use Rattle.scanner.specs.declared.Class.TheVariants.{Digit, Open, Close, Space, Hyphen, Letter, LineEnd, Other}

abbrev pub is_letter : ℕ → Bool
is_letter b = leb (code "a") b && leb b (code "z")

-- The class of a byte.
unfoldable pub class_of : ℕ → Class
class_of b =
    cond (is_digit b) (Digit (b - code "0"))
    (cond (eqb b (code "(")) Open
    (cond (eqb b (code ")")) Close
    (cond (eqb b (code " ")) Space
    (cond (eqb b (code "-")) Hyphen
    (cond (is_letter b) (Letter b)
    (cond (eqb b 10) LineEnd Other))))))

-- The class of the first byte; where nothing is left it is Other.
abbrev pub first_class : List ℕ → Class
first_class [] = Other
first_class (b ∷ bs) = class_of b

-- What a class says of a byte.
abbrev pub is_of : Class → ℕ → Bool
is_of (Digit d) b = is_digit b && eqb d (b - code "0")
is_of Open b = eqb b (code "(")
is_of Close b = eqb b (code ")")
is_of Space b = eqb b (code " ")
is_of Hyphen b = eqb b (code "-")
is_of (Letter l) b = is_letter b && eqb l b
is_of LineEnd b = eqb b 10
is_of Other b = true

pub class_is : (b : ℕ) → is_of (class_of b) b ≡ true
unfolding class_of
class_is b =
    go (is_digit b) (Digit (b - code "0")) _ (λ e. rw (e, eq-eqb (b - code "0") (b - code "0") refl))
    (go (eqb b (code "(")) Open _ (λ e. e)
    (go (eqb b (code ")")) Close _ (λ e. e)
    (go (eqb b (code " ")) Space _ (λ e. e)
    (go (eqb b (code "-")) Hyphen _ (λ e. e)
    (go (is_letter b) (Letter b) _ (λ e. rw (e, eq-eqb b b refl))
    (go (eqb b 10) LineEnd Other (λ e. e) refl))))))
  where
    go : (t : Bool) (c d : Class) → (t ≡ true → is_of c b ≡ true) → is_of d b ≡ true → is_of (cond t c d) b ≡ true
    go true c d h r = h refl
    go false c d h r = r

module _ (b : ℕ) {c : Class} where
  pub class_says : class_of b ≡ c → is_of c b ≡ true
  class_says e = rw e at (class_is b)

-- What the class of a digit says: the byte passes the test, and the value is below 10.
pub record DigitOf (b d : ℕ) : Type 0 where
  pub test : is_digit b ≡ true
  pub low : code "0" ≤ b
  pub value : d ≡ b - code "0"
  pub small : d ≤ 9

pub digit_says : (b : ℕ) {d : ℕ} → class_of b ≡ Digit d → DigitOf b d
digit_says b {d} e =
    let h = both (is_digit b) (class_says b e) in
    let r = both (leb (code "0") b) h.0 in
    let l = leb-true (code "0") b r.0 in
    let u = leb-true b (code "9") r.1 in
    let v = eqb-true d (b - code "0") h.1 in
    record { test = h.0; low = l; value = v; small = omega arith }

-- The class of no digit.
abbrev pub NoDigit : Class → Type 0
NoDigit c = (d : ℕ) → c ≡ Digit d → ⊥

pub digit_not : (b : ℕ) → NoDigit (class_of b) → is_digit b ≡ false
unfolding class_of
digit_not b n = go (is_digit b) refl
  where
    go : (t : Bool) → is_digit b ≡ t → t ≡ false
    go true e = absurd (n (b - code "0") (rw e))
    go false e = refl

-- What the class of a letter says: it comes with its byte.
pub letter_says : (b : ℕ) {l : ℕ} → class_of b ≡ Letter l → l ≡ b
letter_says b {l} e = eqb-true l b (both (is_letter b) (class_says b e)).1

pub other_not : {d : ℕ} → Other ≡ Digit d → ⊥
other_not e = let z : ◌≡◌ {A = ℕ} 0 1 = cc in omega arith

-- A class that one byte alone has.
pub record ClassOfOne (c : Class) (w : ℕ) : Type 0 where
  pub says : (b : ℕ) → is_of c b ≡ eqb b w
  pub class : class_of w ≡ c
