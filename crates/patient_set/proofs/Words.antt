-- What the machine's operations on words do to each patient.
use mathlib.Core.Path.{◌≡◌, refl, sym, ap, ap₂, subst, ◌∙◌}
use mathlib.Core.Bool.{Bool, true, false, false≢true, not, cond, ◌&&◌, ◌||◌}
use mathlib.Core.Option.{some, get_or}
use mathlib.Core.List.{List, [], ◌∷◌, ◌++◌}
use Prim.Native.Nat.{ℕ, zero, suc, ◌+◌, ◌-◌, ◌*◌, ◌/◌, ◌%◌, ◌^◌, ◌≤◌, ◌<◌, max, min}
use native.Mathlib.Nat.{zero-lt-suc, pow-suc, add-zero, add-suc, suc-add, mul-mod_left, div-one, one-mul, div-eq_of_lt, mul-div_cancel}
use native.Mathlib.Numerals.{add-one, one-add}
use native.Mathlib.Omega.{arith}
use lib.Arith.{digits_div, digits_mod, lt-one}
use lib.Bits.{bit_or, bit_and, bit_xor, differ, or_shr, or_step, and_shr, and_step, xor_shr, xor_step}
use lib.Count.{ones, ones_in, ones_step, count_leading_zeros, leading_top, count_trailing_zeros, under}
use lib.Dec.{eqb, ltb, lit<, eqb-suc-suc, eqb-zero-suc, eqb-suc-zero, leb-zero, leb-suc-zero, leb-suc-suc}
use lib.ListN.{length}
use lib.Pow.{shr-shr, shr_lt, shr_mono, shl-shr, shl_exact, pow-lt, ones_split, ones_lt, high}
use Rattle.definitions.specs.Basics.{is_empty, keep, numbers_from, below}
use Rattle.definitions.specs.Parents.{last}
use Rattle.lists.specs.Keep.{keep_append}
use Rattle.lists.specs.Below.{below_next}
use Rattle.lists.specs.Last.{last_is, last_none}
use Rattle.patient_set.specs.Sets.{in_set, members, first}
use Rattle.patient_set.specs.Laws.{bit, last_bit, half_at_lem, half_lt, outside, members_below, empty_word, lowest_and_rest}

-- An operation on words that works bit by bit, as `test` does on the bits' tests.
module _ (op f : ℕ → ℕ → ℕ) (test : Bool → Bool → Bool)
    (shr : (a b k : ℕ) → op a b / 2 ^ k ≡ op (a / 2 ^ k) (b / 2 ^ k))
    (step : (a b : ℕ) → op a b ≡ op (a / 2) (b / 2) * 2 + f (a % 2) (b % 2))
    (table : (x y : Bool) → f (bit x) (bit y) ≡ bit (test x y)) where
  op_at : (a b q : ℕ) → in_set (op a b) q ≡ test (in_set a q) (in_set b q)
  op_at a b q =
      ap (λ x. eqb (x % 2) 1)
      (shr a b q ∙ step (a / 2 ^ q) (b / 2 ^ q)
      ∙ ap (λ x. op (a / 2 ^ q / 2) (b / 2 ^ q / 2) * 2 + x) (ap₂ f (last_bit (a / 2 ^ q)) (last_bit (b / 2 ^ q)) ∙ table (in_set a q) (in_set b q)))
      ∙ ap (λ x. eqb x 1) (digits_mod (op (a / 2 ^ q / 2) (b / 2 ^ q / 2)) (small (test (in_set a q) (in_set b q))))
      ∙ back (test (in_set a q) (in_set b q))
    where
      small : (b : Bool) → bit b < 2
      small true = lit< tt
      small false = lit< tt

      back : (b : Bool) → eqb (bit b) 1 ≡ b
      back true = refl
      back false = refl

pub or_at : (a b q : ℕ) → in_set (bit_or a b) q ≡ (in_set a q || in_set b q)
or_at = op_at bit_or max ◌||◌ or_shr or_step table
  where
    table : (x y : Bool) → max (bit x) (bit y) ≡ bit (x || y)
    table true true = refl
    table true false = refl
    table false true = refl
    table false false = refl

pub and_at : (a b q : ℕ) → in_set (bit_and a b) q ≡ (in_set a q && in_set b q)
and_at = op_at bit_and min ◌&&◌ and_shr and_step table
  where
    table : (x y : Bool) → min (bit x) (bit y) ≡ bit (x && y)
    table true true = refl
    table true false = refl
    table false true = refl
    table false false = refl

xor_at : (a b q : ℕ) → in_set (bit_xor a b) q ≡ cond (in_set a q) (not (in_set b q)) (in_set b q)
xor_at = op_at bit_xor differ (λ x y. cond x (not y) y) xor_shr xor_step table
  where
    table : (x y : Bool) → differ (bit x) (bit y) ≡ bit (cond x (not y) y)
    table true true = refl
    table true false = refl
    table false true = refl
    table false false = refl

pub minus_at : (a b q : ℕ) → in_set (bit_xor a (bit_and a b)) q ≡ (in_set a q && not (in_set b q))
minus_at a b q = xor_at a (bit_and a b) q ∙ ap (λ x. cond (in_set a q) (not x) x) (and_at a b q) ∙ without (in_set a q)
  where
    without : (x : Bool) → cond x (not (x && in_set b q)) (x && in_set b q) ≡ (x && not (in_set b q))
    without true = refl
    without false = refl

-- A power of two is the set of one patient.
power_at : (p q : ℕ) → in_set (2 ^ p) q ≡ eqb q p
power_at zero zero = refl
power_at zero (suc q) = ap (λ x. eqb (x % 2) 1) (div-eq_of_lt (pow-lt (zero-lt-suc q))) ∙ sym (eqb-suc-zero q)
power_at (suc p) zero = ap (λ x. eqb x 1) (ap (λ x. x % 2) (div-one (2 ^ suc p) ∙ pow-suc 2 p) ∙ mul-mod_left (2 ^ p) 2) ∙ sym (eqb-zero-suc p)
power_at (suc p) (suc q) =
    sym (half_at_lem (2 ^ suc p) q) ∙ ap (λ x. in_set x q) (ap (λ x. x / 2) (pow-suc 2 p) ∙ mul-div_cancel (2 ^ p) (zero-lt-suc 1))
    ∙ power_at p q ∙ sym (eqb-suc-suc q p)

pub one_at : (p q : ℕ) → p < 32 → in_set (1 * 2 ^ p % 2 ^ 32) q ≡ eqb q p
one_at p q h = ap (λ x. in_set x q) (shl_exact 1 p 32 (lit< tt) (omega arith) ∙ one-mul (2 ^ p)) ∙ power_at p q

-- One more one.
one_more_lem : (n : ℕ) → 2 ^ suc n - 1 ≡ (2 ^ n - 1) * 2 + 1
one_more_lem n = ap (λ x. 2 ^ x - 1) (sym (add-one n)) ∙ ones_split n 1

-- A word of n ones is the set of the first n patients.
ones_at : (n q : ℕ) → in_set (2 ^ n - 1) q ≡ ltb q n
ones_at zero q = outside 0 0 q (lit< tt) (omega arith) ∙ sym (leb-suc-zero q)
ones_at (suc n) zero =
    ap (λ x. eqb (x % 2) 1) (div-one (2 ^ suc n - 1) ∙ one_more_lem n) ∙ ap (λ x. eqb x 1) (digits_mod (2 ^ n - 1) (lit< tt))
    ∙ sym (leb-suc-suc 0 n ∙ leb-zero n)
ones_at (suc n) (suc q) =
    sym (half_at_lem (2 ^ suc n - 1) q) ∙ ap (λ x. in_set x q) (ap (λ x. x / 2) (one_more_lem n) ∙ digits_div (2 ^ n - 1) (lit< tt))
    ∙ ones_at n q ∙ sym (leb-suc-suc (suc q) n)

pub none_at : (v q : ℕ) → v ≡ 0 → in_set 0 q ≡ ltb q v
none_at v q e = ones_at 0 q ∙ ap (λ x. ltb q x) (sym e)

pub below_at : (v q : ℕ) → v ≤ 32 → in_set ((2 ^ 32 - 1) / 2 ^ (32 - v)) q ≡ ltb q v
below_at v q h = ap (λ x. in_set x q) shifted ∙ ones_at v q
  where
    whole : 32 ≡ v + (32 - v)
    whole = omega arith

    shifted : (2 ^ 32 - 1) / 2 ^ (32 - v) ≡ 2 ^ v - 1
    shifted = ap (λ n. (2 ^ n - 1) / 2 ^ (32 - v)) whole ∙ ap (λ x. x / 2 ^ (32 - v)) (ones_split v (32 - v)) ∙ high (2 ^ v - 1) (32 - v) (ones_lt (32 - v))

-- The bits of w from k + 1 on.
next : (w k : ℕ) → w / 2 ^ k / 2 ≡ w / 2 ^ suc k
next w k = shr-shr w k 1 ∙ ap (λ x. w / 2 ^ x) (add-one k)

-- Zeros are passed until the first patient is met.
zeros_from : (w k n : ℕ) → count_trailing_zeros n (w / 2 ^ k) + k ≡ first (k + n) (keep (in_set w) (numbers_from k n))
unfolding count_trailing_zeros
zeros_from w k zero = omega arith
zeros_from w k (suc n) =
    ap (λ d. under d (count_trailing_zeros n (w / 2 ^ k / 2)) + k) (last_bit (w / 2 ^ k))
    ∙ step (in_set w k) (count_trailing_zeros n (w / 2 ^ k / 2)) (keep (in_set w) (numbers_from (suc k) n))
    (ap (λ x. count_trailing_zeros n x + suc k) (next w k) ∙ zeros_from w (suc k) n)
  where
    step : (b : Bool) (t : ℕ) (l : List ℕ) → t + suc k ≡ first (suc k + n) l → under (bit b) t + k ≡ first (k + suc n) (cond b (k ∷ l) l)
    step true t l e = omega arith
    step false t l e = omega (arith, ap (λ x. first x l) (suc-add k n ∙ sym (add-suc k n)))

-- Each one is a patient.
ones_from : (w k n : ℕ) → ones_in n (w / 2 ^ k) ≡ length (keep (in_set w) (numbers_from k n))
unfolding ones_in
ones_from w k zero = refl
ones_from w k (suc n) =
    ap (λ d. d + ones_in n (w / 2 ^ k / 2)) (last_bit (w / 2 ^ k))
    ∙ step (in_set w k) (keep (in_set w) (numbers_from (suc k) n)) (ap (λ x. ones_in n x) (next w k) ∙ ones_from w (suc k) n)
  where
    step : (b : Bool) {t : ℕ} (l : List ℕ) → t ≡ length l → bit b + t ≡ length (cond b (k ∷ l) l)
    step true l e = omega arith
    step false l e = omega arith

-- n bits hold every one of a word below 2 ^ n.
ones_in_lem : (n w : ℕ) → w < 2 ^ n → ones w ≡ ones_in n w
unfolding ones ones_in
ones_in_lem zero w h = ap ones (lt-one h)
ones_in_lem (suc n) w h = ones_step w ∙ ap (λ x. w % 2 + x) (ones_in_lem n (w / 2) (half_lt n w h))

pub lowest_is : (w : ℕ) → count_trailing_zeros 32 w ≡ first 32 (members w)
unfolding members
lowest_is w = ap (λ x. count_trailing_zeros 32 x) (sym (div-one w)) ∙ sym (add-zero (count_trailing_zeros 32 (w / 1))) ∙ zeros_from w 0 32

-- A word that is not 0 is more.
filled_word : (n : ℕ) → eqb n 0 ≡ false → 0 < n
filled_word zero e = absurd (false≢true (sym e))
filled_word (suc n) e = omega arith

-- Of a word and the word one less, both have each patient of the word but its lowest.
less_one : (n w q : ℕ) → 0 < w → w < 2 ^ n → (in_set w q && in_set (w - 1) q) ≡ (in_set w q && not (eqb q (count_trailing_zeros n w)))
unfolding count_trailing_zeros
less_one zero w q pos h = absurd (omega (arith, lt-one h))
less_one (suc n) w q pos h = go (λ half q. less_one n (w / 2) q half (half_lt n w h)) (w % 2) refl q
  where
    go : (0 < w / 2 → (q : ℕ) → (in_set (w / 2) q && in_set (w / 2 - 1) q) ≡ (in_set (w / 2) q && not (eqb q (count_trailing_zeros n (w / 2)))))
        → (d : ℕ) → w % 2 ≡ d → (q : ℕ) → (in_set w q && in_set (w - 1) q) ≡ (in_set w q && not (eqb q (under (w % 2) (count_trailing_zeros n (w / 2)))))
    go halved zero e zero = ap (λ b. b && in_set (w - 1) 0) none ∙ sym (ap (λ b. b && not (eqb 0 (under (w % 2) (count_trailing_zeros n (w / 2))))) none)
      where
        none : in_set w 0 ≡ false
        none = ap (λ x. eqb (x % 2) 1) (div-one w) ∙ ap (λ x. eqb x 1) e
    go halved zero e (suc q) =
        ap₂ (λ x y. x && y) (sym (half_at_lem w q)) (sym (half_at_lem (w - 1) q) ∙ ap (λ x. in_set x q) half)
        ∙ halved (omega arith) q
        ∙ ap₂ (λ x y. x && not y) (half_at_lem w q) (sym (ap (λ d. eqb (suc q) (under d (count_trailing_zeros n (w / 2)))) e ∙ eqb-suc-suc q (count_trailing_zeros n (w / 2))))
      where
        half : (w - 1) / 2 ≡ w / 2 - 1
        half = omega arith
    go halved (suc d) e zero =
        ap (λ b. in_set w 0 && b) (ap (λ x. eqb (x % 2) 1) (div-one (w - 1)) ∙ ap (λ x. eqb x 1) even)
        ∙ sym (ap (λ d. in_set w 0 && not (eqb 0 (under d (count_trailing_zeros n (w / 2))))) e)
      where
        even : (w - 1) % 2 ≡ 0
        even = omega arith
    go halved (suc d) e (suc q) =
        ap (λ b. in_set w (suc q) && b) (sym (half_at_lem (w - 1) q) ∙ ap (λ x. in_set x q) half ∙ half_at_lem w q)
        ∙ both (in_set w (suc q))
        ∙ ap (λ b. in_set w (suc q) && not b) (sym (eqb-suc-zero q))
        ∙ sym (ap (λ d. in_set w (suc q) && not (eqb (suc q) (under d (count_trailing_zeros n (w / 2))))) e)
      where
        half : (w - 1) / 2 ≡ w / 2
        half = omega arith

        both : (b : Bool) → (b && b) ≡ (b && true)
        both true = refl
        both false = refl

-- Where the size is not 0 there is somebody.
pub some_there : (l : List ℕ) {size : ℕ} → size ≡ length l → (size ≡ 0 → ⊥) → is_empty l ≡ false
some_there [] e n = absurd (n e)
some_there (p ∷ ps) e n = refl

-- So a word without its lowest one has the other patients.
pub without_lowest : (w : ℕ) → w < 2 ^ 32 → is_empty (members w) ≡ false → (1 ≤ w) × (members w ≡ first 32 (members w) ∷ members (bit_and w (w - 1)))
without_lowest w h filled =
    let pos : 0 < w = filled_word w (sym (empty_word w h) ∙ filled) in (
      pos,
      lowest_and_rest w (first 32 (members w)) (2 ^ first 32 (members w)) (bit_and w (w - 1)) filled refl
          (power_at (first 32 (members w)))
          (λ q. and_at w (w - 1) q ∙ less_one 32 w q pos h ∙ ap (λ b. in_set w q && not b) (ap (eqb q) (lowest_is w) ∙ sym (power_at (first 32 (members w)) q))),
    )

-- Where 2 ^ j is the highest one of a word, j is the highest patient.
top_last : (w j : ℕ) → j < 32 → 2 ^ j ≤ w → w < 2 ^ suc j → last (members w) ≡ some j
top_last w j h low high =
    let least : 1 * 2 ^ j / 2 ^ j ≤ w / 2 ^ j = shr_mono j (omega arith) in
    let most : w / 2 ^ j < 2 ^ 1 = shr_lt 1 j (subst (λ n. w < 2 ^ n) (sym (one-add j)) high) in
    let one : w / 2 ^ j ≡ 1 = omega (arith, shl-shr 1 j) in
    let there : in_set w j ≡ true = ap (λ x. eqb (x % 2) 1) one in
    ap last
    (members_below w (suc j) (omega arith) (λ q l. outside (suc j) w q high l)
    ∙ ap (keep (in_set w)) (below_next j) ∙ keep_append (in_set w) (below j) (j ∷ []) ∙ ap (λ b. keep (in_set w) (below j) ++ cond b (j ∷ []) []) there)
    ∙ last_is (keep (in_set w) (below j)) j

-- The place of the highest one, by the zeros above it.
pub highest_is : (w : ℕ) → w < 2 ^ 32 → is_empty (members w) ≡ false → (count_leading_zeros 32 w ≤ 31) × (31 - count_leading_zeros 32 w ≡ get_or (last (members w)) 32)
highest_is w h filled =
    let pos : 0 < w = filled_word w (sym (empty_word w h) ∙ filled) in
    let (j, all, low, high) = leading_top 32 w pos h in
    let place : 31 - count_leading_zeros 32 w ≡ j = omega arith in
    (omega arith, place ∙ sym (ap (λ o. get_or o 32) (top_last w j (omega arith) low high)))

-- No patient has no highest.
pub highest_none : (w : ℕ) → is_empty (members w) ≡ true → 32 ≡ get_or (last (members w)) 32
highest_none w empty = sym (ap (λ o. get_or o 32) (last_none (members w) empty))

pub size_is : (w : ℕ) → w < 2 ^ 32 → ones w ≡ length (members w)
unfolding members
size_is w h = ones_in_lem 32 w h ∙ ap (λ x. ones_in 32 x) (sym (div-one w)) ∙ ones_from w 0 32
