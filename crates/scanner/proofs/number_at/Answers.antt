use Rattle.std.proofs.Common.{◌≡◌, sym, ◌∙◌, refl, arith}
use Rattle.definitions.specs.Limits.{limits}
use Rattle.scanner.proofs.Classes.{not_digit}
use Rattle.scanner.proofs.Numbers.{first_digit, reading_start, reading_ends, reading_missing, reading_long, reading_zero, reading_fits, reading_more}
use Rattle.scanner.proofs.number_at.Goals as goal

pub returns-in_default : goal.returns-in_default
returns-in_default c = reading_missing (reading_start _ _) (not_digit c.class_at.ensures c.in_default.not-Digit) refl

pub loop-d-init : goal.loop-d-init
unfolding limits
loop-d-init c = (first_digit (reading_start _ _) (sym c.class_at.ensures ∙ c.in-Digit.is), omega arith)

pub returns-then-i-at-eq-DIGITS : goal.returns-then-i-at-eq-DIGITS
unfolding limits
returns-then-i-at-eq-DIGITS c =
    let m = c.loop-d.invariant in
    let digit = sym c.class_at-in-loop-d.ensures ∙ c.in-Digit-class_at.is in
    elim c.then-i-at-eq-DIGITS.branch [
      | goal.then-i-at-eq-DIGITS-via-then-i-at-eq-DIGITS w ↦ reading_long m.0 digit w.if-i-at-eq-DIGITS.true
      | goal.then-i-at-eq-DIGITS-via-else-i-at-eq-DIGITS+then-leading_zero w ↦ let z : c.loop-d.value ≡ 0 = omega arith in reading_zero m.0 digit z (λ e. omega arith)
    ]

pub overflow_mul-value : goal.overflow_mul-value
unfolding limits
overflow_mul-value c = omega (arith, reading_fits c.loop-d.invariant.0 (sym c.class_at-in-loop-d.ensures ∙ c.in-Digit-class_at.is) c.if-i-at-eq-DIGITS.false)

pub overflow_add-value : goal.overflow_add-value
unfolding limits
overflow_add-value c = omega (arith, reading_fits c.loop-d.invariant.0 (sym c.class_at-in-loop-d.ensures ∙ c.in-Digit-class_at.is) c.if-i-at-eq-DIGITS.false)

pub loop-d-preserved : goal.loop-d-preserved
unfolding limits
loop-d-preserved c =
    (reading_more c.loop-d.invariant.0 (sym c.class_at-in-loop-d.ensures ∙ c.in-Digit-class_at.is) c.if-i-at-eq-DIGITS.false (λ z. omega arith), omega arith)

pub returns : goal.returns
returns c = reading_ends c.loop-d.invariant.0 (not_digit c.class_at-in-loop-d.ensures c.in_default-class_at.not-Digit) (λ e. omega arith)
