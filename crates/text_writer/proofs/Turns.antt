-- A text at its place, and what is left of a number's digits.
use mathlib.Core.Path.{◌≡◌, refl, sym, ap, ap₂, ◌∙◌}
use native.Mathlib.Omega.{arith}
use Prim.Native.Nat.{◌≤◌}
use lib.ListN.{drop}
use lib.Seq.{sets-eq}
use Rattle.std.proofs.lemmas.List.{take-append-drop}
use mathlib.Core.List.{◌++◌}
use Rattle.std.specs.Prelude.{◌+◌, ◌*◌, ◌/◌, ◌%◌, ◌<◌, ◌∷◌}
use Rattle.definitions.specs.Basics.{ℕ, zero, suc, List, [], flatten, length, take}
use Rattle.definitions.specs.Spelling.{decimal}
use Rattle.theorems.specs.Numbers.{digits_one, decimal_more}
use Rattle.text_writer.specs.Wrote.{Room, Wrote}
use Rattle.text_writer.specs.Parts.{gap}

-- A text that stands at its place; before it and behind it all is as it was.
pub text_written : (text out after : List ℕ) (at : ℕ) → Room text at out → take (at + length text) after ≡ take at out ++ text
    → drop (at + length text) after ≡ drop (at + length text) out → Wrote text at out after (at + length text)
text_written text out after at room front back =
    let end = at + length text in
    record {
      bytes = sym (take-append-drop end after) ∙ ap₂ (λ f b. f ++ b) front back ∙ sym (sets-eq text out at room);
      next = refl;
    }

-- A number of one digit; one of more: the digits of a tenth of it, and then its last digit.
pub one_digit : (n : ℕ) → n < 10 → decimal n ≡ flatten (((48 + n % 10) ∷ []) ∷ [])
unfolding flatten
one_digit n h = let whole : n ≡ n % 10 = omega arith in digits_one n n h ∙ ap (λ (d : ℕ). (48 + d) ∷ []) whole

pub more_digits : (n : ℕ) → 10 ≤ n → decimal n ≡ flatten (decimal (n / 10) ∷ ((48 + n % 10) ∷ []) ∷ [])
unfolding flatten
more_digits n h =
    let whole : n ≡ n / 10 * 10 + n % 10 = omega arith in
    ap decimal whole ∙ decimal_more (n / 10) (n % 10) (omega arith) (omega arith)

-- The space before part i, if there is one.
pub no_gap : (i : ℕ) → i ≡ 0 → gap i ≡ []
no_gap i e = ap gap e

pub one_gap : (i : ℕ) → (i ≡ 0 → ⊥) → gap i ≡ 32 ∷ []
one_gap zero h = absurd (h refl)
one_gap (suc i) h = refl
