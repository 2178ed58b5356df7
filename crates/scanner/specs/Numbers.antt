-- Reading a number digit by digit: the rest of the reading, after k digits of value v, and what each byte does to it.
use Rattle.std.proofs.Common.{sym, ◌∙◌, zero-add, add-zero, arith, le-leb, ne_eqb, eq-eqb, eqb-true, ◌+◌, ◌-◌, ◌*◌, ◌≡◌, ◌&&◌, ◌∷◌}
use Rattle.std.proofs.Math.Path.{ap, ap₂}
use Rattle.std.specs.Prelude.{◌||◌, ◌≤◌, drop}
use Rattle.std.proofs.Math.Bool.{and-false, or-true, or-false}
use Prim.Native.Char.{code}
use Rattle.std.proofs.lemmas.Bool.{lt-leb, eqb-false}
use Rattle.definitions.specs.Basics.{ℕ, zero, suc, refl, Bool, true, false, not, cond, Option, none, some, bind, List, [], length, eqb, is_empty}
use Rattle.definitions.specs.Limits.{digit_count, limits, within}
use Rattle.definitions.specs.Layout.{Reader, give_if, is_digit, no_leading_zero, value_from, number_of, number}
use Rattle.scanner.specs.declared.Class.TheVariants.{Digit}
use Rattle.scanner.specs.Classes.{first_class, NoDigit, DigitOf, digit_says, digit_not, other_not}
use Rattle.scanner.specs.Spans.{take_while, drop_while, take_while_on, take_while_off, drop_while_on, drop_while_off, many_span}

-- May these digits follow k digits of value v? Behind a zero no digit may stand.
abbrev pub may_follow : ℕ → ℕ → List ℕ → Bool
may_follow zero v ds = no_leading_zero ds
may_follow (suc k) v ds = not (eqb v 0) || is_empty ds

-- The number that they make with the k digits of value v.
abbrev pub number_after : ℕ → ℕ → List ℕ → Option ℕ
number_after k v ds = cond (within digit_count (k + length ds) && may_follow k v ds) (some (value_from v ds)) none

unfoldable pub number_from : ℕ → ℕ → Reader ℕ ℕ
number_from k v xs = give_if (number_after k v (take_while is_digit xs)) (drop_while is_digit xs)

-- A number is what stands before the first byte that is no digit; it is what is left to read after no digits.
pub number_span : (xs : List ℕ) → number xs ≡ give_if (number_of (take_while is_digit xs)) (drop_while is_digit xs)
unfolding number bind
number_span xs = rw (many_span is_digit xs)

pub number_start : (xs : List ℕ) → number_from 0 0 xs ≡ number xs
unfolding number_from
number_start xs = rw (number_span xs, zero-add)

-- Nothing may stand after any digits.
nothing_follows : (k v : ℕ) → may_follow k v [] ≡ true
nothing_follows zero v = refl
nothing_follows (suc k) v = or-true (not (eqb v 0))

-- A byte that is no digit ends the number, and so does the end; what was read is a number if it has digits, and not too many.
after_some : (k v : ℕ) → 1 ≤ k → k ≤ (limits digit_count).highest → number_after k v [] ≡ some v
unfolding within limits
after_some k v l h = rw (add-zero, le-leb 1 k l, le-leb k (limits digit_count).highest h, nothing_follows k v)

module _ (k v : ℕ) (few : 1 ≤ k) (many : k ≤ (limits digit_count).highest) where
  ends : number_from k v [] ≡ some (v, [])
  unfolding number_from
  ends = rw (after_some k v few many)

  stops : (b : ℕ) (bs : List ℕ) → is_digit b ≡ false → number_from k v (b ∷ bs) ≡ some (v, b ∷ bs)
  unfolding number_from
  stops b bs e = rw (take_while_off is_digit b bs e, drop_while_off is_digit b bs e, after_some k v few many)

none_ends : (v : ℕ) → number_from 0 v [] ≡ none
unfolding number_from within limits
none_ends v = refl

none_stops : (v b : ℕ) (bs : List ℕ) → is_digit b ≡ false → number_from 0 v (b ∷ bs) ≡ none
unfolding number_from within limits
none_stops v b bs e = rw (take_while_off is_digit b bs e)

-- After a first digit the value is 0 where that digit is `0`.
first_zero : (b : ℕ) → code "0" ≤ b → eqb b (code "0") ≡ eqb (0 * 10 + (b - code "0")) 0
first_zero b l = go (eqb b (code "0")) refl
  where
    go : (t : Bool) → eqb b (code "0") ≡ t → t ≡ eqb (0 * 10 + (b - code "0")) 0
    go true e = let q = eqb-true b (code "0") e in sym (eq-eqb (0 * 10 + (b - code "0")) 0 (omega arith))
    go false e = sym (ne_eqb (0 * 10 + (b - code "0")) 0 (λ q. eqb-false b (code "0") e (omega arith)))

first_follows : (b : ℕ) (ds : List ℕ) → code "0" ≤ b → no_leading_zero (b ∷ ds) ≡ may_follow 1 (0 * 10 + (b - code "0")) ds
first_follows b [] l = sym (nothing_follows 1 (0 * 10 + (b - code "0")))
first_follows b (d ∷ ds) l = ap not (first_zero b l) ∙ sym (or-false (not (eqb (0 * 10 + (b - code "0")) 0)))

follows : (k v b : ℕ) (ds : List ℕ) → code "0" ≤ b → (k ≡ 0 → v ≡ 0) → (1 ≤ k → v ≡ 0 → ⊥) → may_follow k v (b ∷ ds) ≡ may_follow (suc k) (v * 10 + (b - code "0")) ds
follows zero v b ds l start later = rw (start refl) (first_follows b ds l)
follows (suc k) v b ds l start later =
    let n : v ≡ 0 → ⊥ = later (omega arith) in
    rw (ne_eqb v 0 n, ne_eqb (v * 10 + (b - code "0")) 0 (λ e. n (omega arith)))

none_follows : (k v b : ℕ) (ds : List ℕ) → 1 ≤ k → v ≡ 0 → may_follow k v (b ∷ ds) ≡ false
none_follows zero v b ds l e = absurd (omega arith)
none_follows (suc k) v b ds l e = rw (eq-eqb v 0 e)

module _ (k v b : ℕ) {d : ℕ} (bs : List ℕ) (digit : DigitOf b d) where
  goes_on_lem : number_from k v (b ∷ bs) ≡ give_if (number_after k v (b ∷ take_while is_digit bs)) (drop_while is_digit bs)
  unfolding number_from
  goes_on_lem = rw (take_while_on is_digit b bs digit.test, drop_while_on is_digit b bs digit.test)

  -- One digit too many.
  long : k ≡ (limits digit_count).highest → number_from k v (b ∷ bs) ≡ none
  unfolding within limits
  long e = goes_on_lem ∙ rw (lt-leb (k + suc (length (take_while is_digit bs))) (limits digit_count).highest (omega arith), and-false)

  -- A digit behind a zero.
  behind_zero : 1 ≤ k → v ≡ 0 → number_from k v (b ∷ bs) ≡ none
  behind_zero l e = goes_on_lem ∙ rw (none_follows k v b (take_while is_digit bs) l e, and-false)

  -- One more digit.
  more : (k ≡ 0 → v ≡ 0) → (1 ≤ k → v ≡ 0 → ⊥) → number_from k v (b ∷ bs) ≡ number_from (suc k) (v * 10 + d) bs
  unfolding number_from
  more start later =
      goes_on_lem
      ∙ ap₂ (λ n t. give_if (cond (within digit_count n && t) (some (value_from (v * 10 + (b - code "0")) (take_while is_digit bs))) none) (drop_while is_digit bs)) (omega arith)
      (follows k v b (take_while is_digit bs) digit.low start later)
      ∙ ap (λ n. number_from (suc k) (v * 10 + n) bs) (sym digit.value)

-- The same by the class of the first byte.
module _ (k v : ℕ) where
  -- Where no digit stands the number ends: it has digits, and not too many; or it has none.
  pub number_ends : (xs : List ℕ) → NoDigit (first_class xs) → 1 ≤ k → k ≤ (limits digit_count).highest → number_from k v xs ≡ some (v, xs)
  number_ends [] n l h = ends k v l h
  number_ends (b ∷ bs) n l h = stops k v l h b bs (digit_not b n)

  pub number_missing : (xs : List ℕ) → NoDigit (first_class xs) → k ≡ 0 → number_from k v xs ≡ none
  number_missing [] n z = rw z (none_ends v)
  number_missing (b ∷ bs) n z = rw z (none_stops v b bs (digit_not b n))

  -- A digit too many, a digit behind a zero, and one more digit.
  pub number_long : (xs : List ℕ) {d : ℕ} → first_class xs ≡ Digit d → k ≡ (limits digit_count).highest → number_from k v xs ≡ none
  number_long [] e = absurd (other_not e)
  number_long (b ∷ bs) e = long k v b bs (digit_says b e)

  pub number_zero : (xs : List ℕ) {d : ℕ} → first_class xs ≡ Digit d → 1 ≤ k → v ≡ 0 → number_from k v xs ≡ none
  number_zero [] e = absurd (other_not e)
  number_zero (b ∷ bs) e = behind_zero k v b bs (digit_says b e)

  pub number_more : (xs : List ℕ) {d : ℕ} → first_class xs ≡ Digit d → (k ≡ 0 → v ≡ 0) → (1 ≤ k → v ≡ 0 → ⊥) → number_from k v xs ≡ number_from (suc k) (v * 10 + d) (drop 1 xs)
  number_more [] e = absurd (other_not e)
  number_more (b ∷ bs) e = more k v b bs (digit_says b e)
