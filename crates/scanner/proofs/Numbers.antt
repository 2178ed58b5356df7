-- Reading a number: what is left to read is what was asked.
use mathlib.Core.Path.{◌≡◌, refl, sym, ap, subst, ◌∙◌}
use mathlib.Core.List.{List}
use Prim.Native.Nat.{ℕ, suc, ◌+◌, ◌-◌, ◌*◌, ◌^◌, ◌≤◌, ◌<◌, max}
use native.Mathlib.Nat.{sub_self, pow-suc, pow-le-pow_right, zero-lt-suc}
use native.Mathlib.Omega.{arith}
use lib.ListN.{length, drop}
use lib.Seq.{drop-drop}
use Rattle.definitions.specs.Limits.{digit_count, limits}
use Rattle.definitions.specs.Layout.{number}
use Rattle.scanner.specs.declared.Class.TheVariants.{Digit}
use Rattle.std.specs.Prelude.{Some, None}
use Rattle.scanner.specs.Classes.{first_class, NoDigit}
use Rattle.scanner.specs.Answers.{ReadAt, number_read}
use Rattle.scanner.specs.Numbers.{number_from, number_start, number_ends, number_missing, number_long, number_zero, number_more}
use Rattle.scanner.proofs.Classes.{class_within, digit_small}

pub record Reading (s : List ℕ) (at v i : ℕ) : Type 0 where
  pub low : at ≤ i
  pub high : i ≤ max at (length s)
  pub few : i - at ≤ (limits digit_count).highest
  pub small : v < 10 ^ (i - at)
  pub same : number_from (i - at) v (drop i s) ≡ number (drop at s)

-- A number of the most digits fits 32 bits.
numbers_fit : 10 ^ (limits digit_count).highest ≤ 2 ^ 32
unfolding limits
numbers_fit = omega arith

pub reading_start : (s : List ℕ) (at : ℕ) → Reading s at 0 at
reading_start s at = record {
  low = omega arith;
  high = omega arith;
  few = omega (arith, sub_self at);
  small = rw (sub_self at) (omega arith);
  same = rw (sub_self at) (number_start (drop at s));
}

module _ {s : List ℕ} {at v i : ℕ} (r : Reading s at v i) where
  pub reading_ends : NoDigit (first_class (drop i s)) → (i ≡ at → ⊥) → ReadAt number s at (number_read (Some (v, i)))
  reading_ends n o =
      let l = r.low in
      record { says = sym (number_ends (i - at) v (drop i s) n (omega arith) r.few) ∙ r.same; ahead = (l, r.high) }

  pub reading_missing : NoDigit (first_class (drop i s)) → i ≡ at → ReadAt number s at (number_read None)
  reading_missing n o = record { says = sym (number_missing (i - at) v (drop i s) n (omega arith)) ∙ r.same; ahead = tt }

  module _ {d : ℕ} (e : first_class (drop i s) ≡ Digit d) where
    pub reading_within : i < length s
    reading_within = class_within s i (λ n. cc) e

    pub reading_long : i - at ≡ (limits digit_count).highest → ReadAt number s at (number_read None)
    reading_long l = record { says = sym (number_long (i - at) v (drop i s) e l) ∙ r.same; ahead = tt }

    pub reading_zero : v ≡ 0 → (i ≡ at → ⊥) → ReadAt number s at (number_read None)
    reading_zero z o =
        let l = r.low in
        record { says = sym (number_zero (i - at) v (drop i s) e (omega arith) z) ∙ r.same; ahead = tt }

    module _ (h : i - at ≡ (limits digit_count).highest → ⊥) where
      pub reading_fits : v * 10 + d < 2 ^ 32
      reading_fits =
          let f = r.few in
          let p : 10 ^ suc (i - at) ≤ 10 ^ (limits digit_count).highest = pow-le-pow_right (zero-lt-suc 9) {j = (limits digit_count).highest} (omega arith) in
          let b = r.small in
          omega (arith, digit_small (drop i s) e, pow-suc 10 (i - at), numbers_fit)

      pub reading_more : (v ≡ 0 → i ≡ at) → Reading s at (v * 10 + d) (i + 1)
      reading_more z =
          let l = r.low in
          let f = r.few in
          let w = reading_within in
          let b = r.small in
          let n : i + 1 - at ≡ suc (i - at) = omega arith in
          record {
            low = omega arith;
            high = omega arith;
            few = omega arith;
            small = rw (n, pow-suc) (omega (arith, digit_small (drop i s) e));
            same =
                rw n
                (ap (number_from (suc (i - at)) (v * 10 + d)) (sym (drop-drop 1 i s))
                ∙ sym (number_more (i - at) v (drop i s) e (λ k. omega (arith, subst (λ x. v < 10 ^ x) k b)) (λ k q. omega (arith, z q)))
                ∙ r.same);
          }

-- The first digit, of which the value is the digit itself.
pub first_digit : {s : List ℕ} {at d : ℕ} → Reading s at 0 at → first_class (drop at s) ≡ Digit d → Reading s at d (at + 1)
unfolding limits
first_digit {at = at} {d = d} r e = let is : 0 * 10 + d ≡ d = omega arith in rw is at (reading_more r e (λ l. omega (arith, sub_self at)) (λ z. refl))
