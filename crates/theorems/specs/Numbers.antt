-- The decimal digits of a number are the one digit string that is read as it.
use Rattle.std.proofs.Common.{sym, ap, ◌∙◌, inl, inr, append_assoc, append-nil, arith, length-append, ltb-true, lt-ltb, le-ltb, leb-true, le-leb, ne_eqb, ◌+◌, ◌-◌, ◌*◌, ◌/◌, ◌%◌, ◌^◌, ◌<◌, ◌≡◌, ◌∷◌, ◌++◌}
use Rattle.std.specs.Prelude.{◌↔◌, ◌⊎◌, ◌≤◌}
use Rattle.std.proofs.lemmas.Bool.{false≢true, eqb-false, not-true}
use Rattle.std.proofs.Math.Nat.{pow-le-pow_right, pow-succ'}
use Rattle.std.proofs.Math.Decide.{dec_lt}
use Rattle.definitions.specs.Basics.{ℕ, zero, suc, refl, Bool, true, false, not, Option, none, some}
use Rattle.definitions.specs.Basics.{bind, or_else, List, [], length, eqb, leb, text, every, none_or}
use Rattle.definitions.specs.Limits.{digit_count, limits, within}
use Rattle.definitions.specs.Layout.{◌>>=◌, ◌>>◌, passing, give, give_if, exactly, word, is_digit, no_leading_zero, value_from, number_of, number}
use Rattle.definitions.specs.Layout.{hyphen_or_number}
use Rattle.definitions.specs.Spelling.{digits_within, decimal, hyphen_or_decimal, spellable}
use Rattle.lists.specs.Tests.{both}
use Rattle.lists.specs.Every.{every_append}
use Rattle.theorems.specs.Readers.{Reads, Stops, then_only, then_each, cond_only, gives_same, gives_only, passing_reads, word_reads}

-- One digit; the last of more digits, and those before it.
pub digits_one : (k n : ℕ) → n < 10 → digits_within (suc k) n ≡ (48 + n) ∷ []
unfolding digits_within
digits_one k n h = rw (lt-ltb n 10 h, digits_within)

digits_more : (k n : ℕ) → 10 ≤ n → digits_within (suc k) n ≡ digits_within k (n / 10) ++ (48 + n % 10) ∷ []
unfolding digits_within
digits_more k n h = rw (le-ltb n 10 h, digits_within)

-- Induction over the digits of a number, the last one last.
module _ (P : ℕ → List ℕ → Type 0) (one : (n : ℕ) → n < 10 → P n ((48 + n) ∷ []))
    (more : (n : ℕ) (ds : List ℕ) → 10 ≤ n → P (n / 10) ds → P n (ds ++ (48 + n % 10) ∷ [])) where
  digits_induction : (k n : ℕ) → n < k → P n (digits_within k n)
  digits_induction zero n h = absurd (omega arith)
  digits_induction (suc k) n h = by (dec_lt n 10) (digits_induction k (n / 10))
    where
      by : Dec (n < 10) → (n / 10 < k → P (n / 10) (digits_within k (n / 10))) → P n (digits_within (suc k) n)
      by (yes small) before = rw (digits_one k n small) (one n small)
      by (no large) before = rw (digits_more k n (omega arith)) (more n (digits_within k (n / 10)) (omega arith) (before (omega arith)))

  decimal_induction : (n : ℕ) → P n (decimal n)
  decimal_induction n = digits_induction (suc n) n (omega arith)

-- How many digits there may be makes no difference, if they are enough.
same_within : (k n : ℕ) → n < k → (j : ℕ) → n < j → digits_within k n ≡ digits_within j n
same_within = digits_induction (λ n ds. (j : ℕ) → n < j → ds ≡ digits_within j n) one more
  where
    one : (n : ℕ) → n < 10 → (j : ℕ) → n < j → (48 + n) ∷ [] ≡ digits_within j n
    one n h zero g = absurd (omega arith)
    one n h (suc j) g = sym (digits_one j n h)

    more : (n : ℕ) (ds : List ℕ) → 10 ≤ n → ((j : ℕ) → n / 10 < j → ds ≡ digits_within j (n / 10))
        → (j : ℕ) → n < j → ds ++ (48 + n % 10) ∷ [] ≡ digits_within j n
    more n ds h before zero g = absurd (omega arith)
    more n ds h before (suc j) g = ap (λ (l : List ℕ). l ++ (48 + n % 10) ∷ []) (before j (omega arith)) ∙ sym (digits_more j n h)

pub decimal_more : (v d : ℕ) → 1 ≤ v → d < 10 → decimal (v * 10 + d) ≡ decimal v ++ (48 + d) ∷ []
decimal_more v d h g =
    let n = v * 10 + d in
    let quotient : n / 10 ≡ v = omega arith in
    let remainder : n % 10 ≡ d = omega arith in
    digits_more n n (omega arith) ∙ (λ i. digits_within n (quotient i) ++ (48 + remainder i) ∷ [])
    ∙ ap (λ (ds : List ℕ). ds ++ (48 + d) ∷ []) (same_within n v (omega arith) (suc v) (omega arith))

-- A number's digits are digits, ..
pub digit_bounds : (d : ℕ) → is_digit d ≡ true → (48 ≤ d) × (d ≤ 57)
digit_bounds d h = let (low, high) = both (leb 48 d) h in (leb-true 48 d low, leb-true d 57 high)

digit_is : (d : ℕ) → d < 10 → every is_digit ((48 + d) ∷ []) ≡ true
digit_is d h = rw (le-leb 48 (48 + d) (omega arith), le-leb (48 + d) 57 (omega arith)) refl

pub decimal_digits : (n : ℕ) → every is_digit (decimal n) ≡ true
decimal_digits = decimal_induction (λ n ds. every is_digit ds ≡ true) digit_is
    (λ n ds h before. every_append is_digit ds ((48 + n % 10) ∷ []) before (digit_is (n % 10) (omega arith)))

-- .. have its value, ..
value_more : (v : ℕ) (ds : List ℕ) (d : ℕ) → value_from v (ds ++ d ∷ []) ≡ value_from v ds * 10 + (d - 48)
value_more v [] d = refl
value_more v (e ∷ ds) d = value_more (v * 10 + (e - 48)) ds d

decimal_value : (n : ℕ) → value_from 0 (decimal n) ≡ n
decimal_value = decimal_induction (λ n ds. value_from 0 ds ≡ n) (λ n h. omega arith)
    (λ n ds h before. let e = value_more 0 ds (48 + n % 10) in omega arith)

-- .. are at most k exactly for a number below 10 ^ k, ..
length_more : (ds : List ℕ) (d : ℕ) → length (ds ++ d ∷ []) ≡ suc (length ds)
length_more ds d = let e = length-append ds (d ∷ []) in omega arith

pub decimal_length : (n k : ℕ) → n < 10 ^ suc k → length (decimal n) ≤ suc k
decimal_length = decimal_induction (λ n ds. (k : ℕ) → n < 10 ^ suc k → length ds ≤ suc k) (λ n h k g. omega arith) more
  where
    more : (n : ℕ) (ds : List ℕ) → 10 ≤ n → ((k : ℕ) → n / 10 < 10 ^ suc k → length ds ≤ suc k)
        → (k : ℕ) → n < 10 ^ suc k → length (ds ++ (48 + n % 10) ∷ []) ≤ suc k
    more n ds h before zero g = absurd (omega arith)
    more n ds h before (suc k) g = let b = before k (omega arith) in let l = length_more ds (48 + n % 10) in omega arith

pub decimal_bound : (n : ℕ) → n < 10 ^ length (decimal n)
decimal_bound = decimal_induction (λ n ds. n < 10 ^ length ds) (λ n h. h)
    (λ n ds h before. rw (length_more ds (48 + n % 10), pow-succ' 10 (length ds)) (omega arith))

-- .. and begin with 0 only for 0 itself.
abbrev nonzero_first : List ℕ → Bool
nonzero_first [] = false
nonzero_first (d ∷ ds) = not (eqb d 48)

nonzero_append : (ds es : List ℕ) → nonzero_first ds ≡ true → nonzero_first (ds ++ es) ≡ true
nonzero_append [] es h = absurd (false≢true h)
nonzero_append (d ∷ ds) es h = h

nonzero_leads : (ds : List ℕ) → nonzero_first ds ≡ true → (no_leading_zero ds ≡ true) × (1 ≤ length ds)
nonzero_leads [] h = absurd (false≢true h)
nonzero_leads (d ∷ []) h = (refl, omega arith)
nonzero_leads (d ∷ e ∷ ds) h = (h, omega arith)

decimal_nonzero : (n : ℕ) → 1 ≤ n → nonzero_first (decimal n) ≡ true
decimal_nonzero = decimal_induction (λ n ds. 1 ≤ n → nonzero_first ds ≡ true) (λ n h g. ap not (ne_eqb (48 + n) 48 (omega arith)))
    (λ n ds h before g. nonzero_append ds ((48 + n % 10) ∷ []) (before (omega arith)))

pub decimal_leads : (n : ℕ) → (no_leading_zero (decimal n) ≡ true) × (1 ≤ length (decimal n))
unfolding digits_within
decimal_leads zero = (refl, omega arith)
decimal_leads (suc n) = nonzero_leads (decimal (suc n)) (decimal_nonzero (suc n) (omega arith))

-- A smaller number has no more digits.
pub decimal_longer : (m n : ℕ) → m ≤ n → length (decimal m) ≤ length (decimal n)
decimal_longer m n h = by (length (decimal n)) (decimal_leads n).1 (decimal_bound n)
  where
    by : (k : ℕ) → 1 ≤ k → n < 10 ^ k → length (decimal m) ≤ k
    by zero some_digits bound = absurd (omega arith)
    by (suc k) some_digits bound = decimal_length m k (omega arith)

-- The other way: digits with no zero in front are the decimal digits of their value.
value_decimal : (v : ℕ) (ds : List ℕ) → 1 ≤ v → every is_digit ds ≡ true → decimal (value_from v ds) ≡ decimal v ++ ds
value_decimal v [] h digits = sym (append-nil (decimal v))
value_decimal v (d ∷ ds) h digits =
    let (now, later) = both (is_digit d) digits in
    let (low, high) = digit_bounds d now in
    let back : 48 + (d - 48) ≡ d = omega arith in
    value_decimal (v * 10 + (d - 48)) ds (omega arith) later
    ∙ ap (λ (l : List ℕ). l ++ ds) (decimal_more v (d - 48) h (omega arith) ∙ (λ i. decimal v ++ back i ∷ []))
    ∙ append_assoc (decimal v) (d ∷ []) ds

digit_decimal : (d : ℕ) → is_digit d ≡ true → decimal (value_from 0 (d ∷ [])) ≡ d ∷ []
digit_decimal d digit =
    let (low, high) = digit_bounds d digit in
    let n = value_from 0 (d ∷ []) in
    let back : 48 + n ≡ d = omega arith in
    digits_one n n (omega arith) ∙ λ i. back i ∷ []

digits_decimal : (ds : List ℕ) → 1 ≤ length ds → no_leading_zero ds ≡ true → every is_digit ds ≡ true → decimal (value_from 0 ds) ≡ ds
digits_decimal [] h leads digits = absurd (omega arith)
digits_decimal (d ∷ []) h leads digits = digit_decimal d (both (is_digit d) digits).0
digits_decimal (d ∷ e ∷ ds) h leads digits =
    let (now, later) = both (is_digit d) digits in
    let (low, high) = digit_bounds d now in
    let nonzero = eqb-false d 48 (not-true (eqb d 48) leads) in
    value_decimal (value_from 0 (d ∷ [])) (e ∷ ds) (omega arith) later ∙ ap (λ (l : List ℕ). l ++ e ∷ ds) (digit_decimal d now)

-- So `number_of` takes of digit strings exactly the decimal digits of the numbers below 10,000,000.
number_of_only : (ds : List ℕ) {n : ℕ} → every is_digit ds ≡ true → number_of ds ≡ some n → (spellable n ≡ true) × (ds ≡ decimal n)
unfolding limits within
number_of_only ds {n} digits e =
    let (fits, value) = cond_only _ e in
    let (in_limits, leads) = both (within digit_count (length ds)) fits in
    let (low, high) = both (leb 1 (length ds)) in_limits in
    let is : ds ≡ decimal n = sym (digits_decimal ds (leb-true 1 (length ds) low) leads digits) ∙ ap decimal value in
    let short : length (decimal n) ≤ 7 = rw is at (leb-true (length ds) 7 high) in
    let bound : 10 ^ length (decimal n) ≤ 10 ^ 7 = pow-le-pow_right (omega arith) short in
    let below = decimal_bound n in
    (lt-ltb n (10 ^ 7) (omega arith), is)

number_of_each : (n : ℕ) → spellable n ≡ true → number_of (decimal n) ≡ some n
unfolding limits within
number_of_each n h =
    let (leads, some_digits) = decimal_leads n in
    let few_digits = decimal_length n 6 (ltb-true n (10 ^ 7) h) in
    rw (le-leb 1 (length (decimal n)) some_digits, le-leb (length (decimal n)) 7 few_digits, leads, decimal_value n)

pub number_spelling : (ds : List ℕ) (n : ℕ) → every is_digit ds ≡ true → (number_of ds ≡ some n) ↔ ((n < 10_000_000) × (ds ≡ decimal n))
unfolding limits
number_spelling ds n digits = (
  λ e. let (fits, is) = number_of_only ds digits e in (ltb-true n 10_000_000 fits, is),
  λ h. ap number_of h.1 ∙ number_of_each n (lt-ltb n 10_000_000 h.0),
)

-- The number at the front of some bytes ends where the digits end.
pub number_reads : Reads number decimal spellable (Stops (passing is_digit))
unfolding number
number_reads = record {
  only = λ {xs} e. then_only (passing_reads is_digit) _ xs e λ ds rest digits is gave.
      let (took, rest_is) = gives_only (number_of ds) gave in
      let (ok, spelt) = number_of_only ds digits took in
      (ok, is ∙ λ i. spelt i ++ rest_is i);
  each = λ n rest ok h.
      then_each (passing_reads is_digit) _ (decimal n) rest (decimal_digits n) h ∙ ap (λ (o : Option ℕ). give_if o rest) (number_of_each n ok);
}

-- A hyphen is no digit, so of a hyphen and a number at most one is read.
no_hyphen : (ds rest : List ℕ) → 1 ≤ length ds → every is_digit ds ≡ true → exactly (text "-") (ds ++ rest) ≡ none
unfolding bind
no_hyphen [] rest h digits = absurd (omega arith)
no_hyphen (d ∷ ds) rest h digits =
    let (low, high) = digit_bounds d (both (is_digit d) digits).0 in
    rw (ne_eqb 45 d (omega arith))

either_only : {A : Type 0} (o p : Option A) {a : A} → or_else o p ≡ some a → (o ≡ some a) ⊎ (p ≡ some a)
unfolding or_else
either_only none p e = inr e
either_only (some b) p e = inl e

hyphen_only : (xs : List ℕ) {rest : List ℕ} {p : Option ℕ}
    → ((word "-" >> give none) xs ≡ some (p, rest)) ⊎ ((number >>= (λ n. give (some n))) xs ≡ some (p, rest))
    → (none_or spellable p ≡ true) × (xs ≡ hyphen_or_decimal p ++ rest)
hyphen_only xs (inl e) = then_only (word_reads "-") _ xs e λ u mid ok is gave.
    let (p_is, rest_is) = gives_same gave in
    (ap (none_or spellable) (sym p_is), is ∙ λ i. hyphen_or_decimal (p_is i) ++ rest_is i)
hyphen_only xs (inr e) = then_only number_reads _ xs e λ n mid ok is gave.
    let (p_is, rest_is) = gives_same gave in
    (ap (none_or spellable) (sym p_is) ∙ ok, is ∙ λ i. hyphen_or_decimal (p_is i) ++ rest_is i)

hyphen_each : (p : Option ℕ) (rest : List ℕ) → none_or spellable p ≡ true → Stops (passing is_digit) rest
    → hyphen_or_number (hyphen_or_decimal p ++ rest) ≡ some (p, rest)
unfolding hyphen_or_number or_else bind
hyphen_each none rest ok h = refl
hyphen_each (some n) rest ok h =
    rw (no_hyphen (decimal n) rest (decimal_leads n).1 (decimal_digits n)) (then_each number_reads _ n rest ok h)

pub hyphen_reads : Reads hyphen_or_number hyphen_or_decimal (none_or spellable) (Stops (passing is_digit))
unfolding hyphen_or_number
hyphen_reads = record { only = λ {xs} e. hyphen_only xs (either_only _ _ e); each = hyphen_each }
