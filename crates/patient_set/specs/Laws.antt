-- The laws of sets of patients, in terms of `in_set` and `members` alone.
use Rattle.std.specs.Prelude.{◌≡◌, refl, ◌≤◌}
use Rattle.std.proofs.Math.Path.{sym, ap, fun_ext}
use Rattle.std.proofs.Common.{ap₂, ◌∙◌, subst, suc-le-suc, mod-lt, div-add-mod', zero-lt-suc, div-one, le_trans, add-one, one-add, arith, shr-shr, shr_lt, pow_mono, ltb-true, eq-eqb, ne_eqb, ◌+◌, ◌-◌, ◌*◌, ◌/◌, ◌%◌, ◌^◌, ◌<◌, ◌&&◌, ◌∷◌}
use Rattle.std.proofs.lemmas.Bool.{false≢true}
use Rattle.std.proofs.Math.Bool.{and-false}
use Rattle.std.proofs.Math.Nat.{div-eq_of_lt}
use Rattle.std.proofs.Math.Decide.{dec_lt}
use Rattle.std.proofs.Math.Arith.{lt-one}
use Rattle.std.proofs.Math.Dec.{eqb-suc-zero}
use Rattle.definitions.specs.Basics.{ℕ, zero, suc, Bool, true, false, not, cond, List, [], eqb, ltb, length, is_empty, every, every_two, keep, contains, below}
use Rattle.patient_set.specs.Sets.{in_set, members, first}
use Rattle.lists.specs.Members.{here}
use Rattle.lists.specs.Every.{contains_in, every_contains}
use Rattle.lists.specs.Keep.{keep_short, every_keep, every_two_keep, keep_keep, contains_keep}
use Rattle.lists.specs.Below.{contains_numbers, keep_front}
use Rattle.lists.specs.Rising.{keep_rest}

-- The word 0 is the empty set.
pub members_empty : members 0 ≡ []
unfolding members
members_empty = refl

-- The word of 32 ones is the full set.
pub members_full : members (2 ^ 32 - 1) ≡ below 32
unfolding members
members_full = refl

-- The bit that says whether a test holds.
abbrev pub bit : Bool → ℕ
bit b = cond b 1 0

-- The last bit of a word is that of its test.
pub last_bit : (w : ℕ) → w % 2 ≡ bit (eqb (w % 2) 1)
last_bit w = go (w % 2) (mod-lt w (zero-lt-suc 1))
  where
    go : (d : ℕ) → d < 2 → d ≡ bit (eqb d 1)
    go zero h = refl
    go (suc zero) h = refl
    go (suc (suc d)) h = absurd (omega arith)

-- Without its last bit a word has each patient one lower, and is shorter by a bit.
pub half_at_lem : (w q : ℕ) → in_set (w / 2) q ≡ in_set w (suc q)
half_at_lem w q = ap (λ x. eqb (x % 2) 1) (shr-shr w 1 q ∙ ap (λ x. w / 2 ^ x) (one-add q))

pub half_lt : (n w : ℕ) → w < 2 ^ suc n → w / 2 < 2 ^ n
half_lt n w h = shr_lt n 1 (subst (λ x. w < 2 ^ x) (sym (add-one n)) h)

-- A word below 2 ^ n has no patient from n on.
pub outside : (n w q : ℕ) → w < 2 ^ n → n ≤ q → in_set w q ≡ false
outside n w q h l = ap (λ x. eqb (x % 2) 1) (div-eq_of_lt (le_trans h (pow_mono l)))

-- A word is determined by its patients: of n bits, and of 32.
same_bits : (n a b : ℕ) → a < 2 ^ n → b < 2 ^ n → ((q : ℕ) → q < n → in_set a q ≡ in_set b q) → a ≡ b
same_bits zero a b ha hb h = lt-one ha ∙ sym (lt-one hb)
same_bits (suc n) a b ha hb h =
    sym (div-add-mod' a 2)
    ∙ ap₂ (λ x y. x * 2 + y)
    (same_bits n (a / 2) (b / 2) (half_lt n a ha) (half_lt n b hb) (λ q l. half_at_lem a q ∙ h (suc q) (suc-le-suc l) ∙ sym (half_at_lem b q)))
    (last_bit a ∙ ap bit (last a ∙ h 0 (zero-lt-suc n) ∙ sym (last b)) ∙ sym (last_bit b))
    ∙ div-add-mod' b 2
  where
    last : (x : ℕ) → eqb (x % 2) 1 ≡ in_set x 0
    last x = ap (λ y. eqb (y % 2) 1) (sym (div-one x))

pub same_word : (a b : ℕ) → a < 2 ^ 32 → b < 2 ^ 32 → ((q : ℕ) → q < 32 → in_set a q ≡ in_set b q) → a ≡ b
same_word = same_bits 32

-- A set with no patient from v on: its members are found below v.
pub members_below : (w v : ℕ) → v ≤ 32 → ((q : ℕ) → v ≤ q → in_set w q ≡ false) → members w ≡ keep (in_set w) (below v)
unfolding members
members_below w v h none = keep_front (in_set w) 0 v 32 h (λ q l. none q (omega arith))

-- The members are the patients that are in the set.
pub member : (w q : ℕ) → w < 2 ^ 32 → contains (members w) q ≡ in_set w q
unfolding members
member w q h = contains_keep (in_set w) (below 32) q ∙ go (dec_lt q 32)
  where
    go : Dec (q < 32) → (contains (below 32) q && in_set w q) ≡ in_set w q
    go (yes l) = ap (λ b. b && in_set w q) (contains_numbers 0 32 q (omega arith) (omega arith))
    go (no l) = ap (λ b. contains (below 32) q && b) out ∙ and-false (contains (below 32) q) ∙ sym out
      where
        out : in_set w q ≡ false
        out = outside 32 w q h (omega arith)

-- The members rise.
pub rising : (w : ℕ) → every_two ltb (members w) ≡ true
unfolding members
rising w = every_two_keep ltb (in_set w) (below 32) refl

-- The members are patients.
pub all_patients : (w : ℕ) → every (λ q. ltb q 32) (members w) ≡ true
unfolding members
all_patients w = every_keep (λ q. ltb q 32) (in_set w) (below 32) refl

-- Sets with the same members are the same word.
pub same_members : (a b : ℕ) → a < 2 ^ 32 → b < 2 ^ 32 → members a ≡ members b → a ≡ b
same_members a b ha hb e = same_word a b ha hb (λ q l. sym (member a q ha) ∙ ap (λ m. contains m q) e ∙ member b q hb)

-- A set is empty where its word is 0.
pub empty_word : (w : ℕ) → w < 2 ^ 32 → is_empty (members w) ≡ eqb w 0
empty_word w h = go (members w) refl
  where
    go : (m : List ℕ) → members w ≡ m → is_empty m ≡ eqb w 0
    go [] e = sym (eq-eqb w 0 (same_members w 0 h (zero-lt-suc _) (e ∙ sym members_empty)))
    go (x ∷ m) e = sym (ne_eqb w 0 (λ z. false≢true (ap is_empty (sym e ∙ ap members z ∙ members_empty))))

-- A set is empty where its size is 0.
pub empty_size : (w : ℕ) → is_empty (members w) ≡ eqb (length (members w)) 0
empty_size w = go (members w)
  where
    go : (m : List ℕ) → is_empty m ≡ eqb (length m) 0
    go [] = refl
    go (x ∷ m) = sym (eqb-suc-zero (length m))

pub size_some : (w : ℕ) {n : ℕ} → n ≡ length (members w) → 0 < n → is_empty (members w) ≡ false
size_some w e h = empty_size w ∙ ne_eqb (length (members w)) 0 (λ z. omega arith)

pub size_none : (w : ℕ) {n : ℕ} → n ≡ length (members w) → n ≤ 0 → is_empty (members w) ≡ true
size_none w e h = empty_size w ∙ eq-eqb (length (members w)) 0 (omega arith)

-- A set has at most 32 patients.
pub size_most : (w : ℕ) → length (members w) ≤ 32
unfolding members
size_most w = keep_short (in_set w) (below 32)

-- The first of a list is in it.
contains_first : (d : ℕ) (l : List ℕ) → is_empty l ≡ false → contains l (first d l) ≡ true
contains_first d [] h = absurd (false≢true (sym h))
contains_first d (x ∷ l) h = contains_in (x ∷ l) (here refl)

-- The lowest of a set that is not empty is a patient of the set.
pub lowest_patient : (w : ℕ) → is_empty (members w) ≡ false → first 32 (members w) < 32
lowest_patient w h =
    ltb-true (first 32 (members w)) 32 (every_contains (λ q. ltb q 32) (members w) (first 32 (members w)) (all_patients w) (contains_first 32 (members w) h))

-- Who comes next of a set is a patient.
pub coming_patient : (w p : ℕ) (others : List ℕ) → members w ≡ p ∷ others → p < 32
coming_patient w p others e = ltb-true p 32 (every_contains (λ q. ltb q 32) (members w) p (all_patients w) (ap (λ m. contains m p) e ∙ contains_in (p ∷ others) (here refl)))

-- A set w that is not empty, and r, which is w minus the set o of its lowest: the hypotheses are what the functions ensure.
module _ (w low o r : ℕ) (some : is_empty (members w) ≡ false) (lowest : low ≡ first 32 (members w))
    (one : (q : ℕ) → in_set o q ≡ eqb q low) (minus : (q : ℕ) → in_set r q ≡ (in_set w q && not (in_set o q))) where
  -- r keeps all but the lowest.
  others : members r ≡ keep (λ q. not (eqb q low)) (members w)
  unfolding members
  others =
      ap (λ f. keep f (below 32)) (fun_ext (λ q. minus q ∙ ap (λ b. in_set w q && not b) (one q)))
      ∙ sym (keep_keep (λ q. not (eqb q low)) (in_set w) (below 32))

  -- So the members of w are its lowest and those of r.
  pub lowest_and_rest : members w ≡ low ∷ members r
  lowest_and_rest = go (members w) some lowest (rising w) ∙ ap (λ m. low ∷ m) (sym others)
    where
      go : (m : List ℕ) → is_empty m ≡ false → low ≡ first 32 m → every_two ltb m ≡ true → m ≡ low ∷ keep (λ q. not (eqb q low)) m
      go [] h e up = absurd (false≢true (sym h))
      go (x ∷ m) h e up = subst (λ (w : ℕ). x ∷ m ≡ w ∷ keep (λ q. not (eqb q w)) (x ∷ m)) (sym e) (ap (λ k. x ∷ k) (sym (keep_rest x m up)))

  -- The rest is smaller: the measure of a recursion.
  pub rest_smaller : length (members r) < length (members w)
  rest_smaller = omega (arith, ap length lowest_and_rest)
