-- The loop that adds to the sum of each bed the entry for it.
use mathlib.Core.Path.{◌≡◌, refl, sym, ap, ◌∙◌}
use Prim.Native.Nat.{◌≤◌}
use native.Mathlib.Decide.{dec_lt}
use native.Mathlib.Nat.{add-zero}
use native.Mathlib.Omega.{arith}
use lib.ListN.{set, length-set}
use lib.Seq.{get_or-set_same, get_or-set_other}
use borrow.Author.Tests.{eqb-true, eqb-false}
use Rattle.std.specs.Prelude.{◌+◌, ◌<◌}
use Rattle.definitions.specs.Basics.{ℕ, Bool, true, false, cond, List, length, get_or, eqb}
use Rattle.theorems.specs.Sums.{plus, plus_none}
use Rattle.held_region.specs.Meaning.{mark, said_by}
use Rattle.pricing.specs.Pricing.{no_sum, sum_in}
use Rattle.pricing.specs.Costs.{entry_number, sum_number, sum_none}
use Rattle.pricing.specs.BedCosts.{Small, most_word, OneMore, AsksEntries, GivesEntries}

-- ---- one more entry

add_mark : (sum entry : ℕ) → entry ≡ mark → OneMore sum entry (sum + entry + no_sum)
add_mark sum entry e = record {
  is = sum_none (sum + entry + no_sum) (omega arith) ∙ sym (plus_none (sum_in sum)) ∙ ap (λ w. plus (sum_in sum) (said_by w)) (sym e);
  most = omega arith;
}

add_number : (sum entry : ℕ) → Small sum → (entry ≡ mark → ⊥) → entry < 4_294_967_296 → OneMore sum entry (sum + entry + 0)
add_number sum entry small other fits = record { is = by_sum (dec_lt sum no_sum); most = omega arith }
  where
    by_sum : Dec (sum < no_sum) → sum_in (sum + entry + 0) ≡ plus (sum_in sum) (said_by entry)
    by_sum (yes h) =
        let number = sum_number sum h in
        ap sum_in (add-zero (sum + entry)) ∙ sum_number (sum + entry) (omega (arith, small sum number)) ∙ sym (rw (number, entry_number entry other) refl)
    by_sum (no h) = sum_none (sum + entry + 0) (omega arith) ∙ sym (ap (λ o. plus o (said_by entry)) (sum_none sum (omega arith)))

pub added_most : (entry : ℕ) {more : ℕ} → more ≡ cond (eqb entry mark) no_sum 0 → more ≤ no_sum
added_most entry is = by_code (eqb entry mark) is
  where
    by_code : (forbidden : Bool) {more : ℕ} → more ≡ cond forbidden no_sum 0 → more ≤ no_sum
    by_code true is = omega (arith, is)
    by_code false is = omega (arith, is)

-- Its code is added, and for the mark what makes it no number.
pub add-one : (sum entry more : ℕ) → Small sum → entry < 4_294_967_296 → more ≡ cond (eqb entry mark) no_sum 0 → OneMore sum entry (sum + entry + more)
add-one sum entry more small fits is = by_code (eqb entry mark) refl is
  where
    by_code : (forbidden : Bool) → eqb entry mark ≡ forbidden → more ≡ cond forbidden no_sum 0 → OneMore sum entry (sum + entry + more)
    by_code true e is = rw is (add_mark sum entry (eqb-true entry mark e))
    by_code false e is = rw is (add_number sum entry small (eqb-false entry mark e) fits)

-- ---- one more entry for each bed

-- Where the loop stands: the beds below the next one have their entry, the others wait.
pub record Added (store : List ℕ) (from first end : ℕ) (sums now : List ℕ) (bed : ℕ) : Type 0 where
  pub begun : first ≤ bed
  pub few : bed ≤ end
  pub long : length now ≡ 16
  pub done : (b : ℕ) → first ≤ b → b < bed → OneMore (get_or sums b 0) (get_or store (from + b) 0) (get_or now b 0)
  pub waiting : (b : ℕ) → bed ≤ b → get_or now b 0 ≡ get_or sums b 0

module _ {store : List ℕ} {from first end : ℕ} {sums : List ℕ} (asks : AsksEntries store from first end sums) where
  pub added_start : Added store from first end sums sums first
  added_start = record { begun = omega arith; few = asks.ordered; long = asks.long; done = λ b l h. absurd (omega arith); waiting = λ b h. refl }

  module _ {now : List ℕ} {bed : ℕ} (added : Added store from first end sums now bed) (more : bed < end) where
    added_bed : bed < 16
    added_bed = omega (arith, asks.few)

    pub added_small : (word : ℕ) → word ≡ get_or now bed 0 → Small word × (word ≤ most_word)
    added_small word is = (
      λ n e. asks.small bed added.begun more n (ap sum_in (sym (added.waiting bed (omega arith)) ∙ sym is) ∙ e),
      omega (arith, is, added.waiting bed (omega arith), asks.room bed added.begun more),
    )

    pub added_next : (sum entry word : ℕ) → sum ≡ get_or now bed 0 → entry ≡ get_or store (from + bed) 0 → OneMore sum entry word
        → Added store from first end sums (set now bed word) (bed + 1)
    added_next sum entry word is_sum is_entry is = record {
      begun = omega (arith, added.begun);
      few = omega arith;
      long = length-set now bed word ∙ added.long;
      done = λ b l h. each b l h (eqb b bed) refl;
      waiting = λ b h. get_or-set_other now bed b word 0 (λ e. omega arith) ∙ added.waiting b (omega arith);
    }
      where
        each : (b : ℕ) → first ≤ b → b < bed + 1 → (same : Bool) → eqb b bed ≡ same → OneMore (get_or sums b 0) (get_or store (from + b) 0) (get_or (set now bed word) b 0)
        each b l h true e =
            let here : b ≡ bed = eqb-true b bed e in
            let old : sum ≡ get_or sums b 0 = rw here (is_sum ∙ added.waiting bed (omega arith)) in
            let new : word ≡ get_or (set now bed word) b 0 = sym (ap (λ i. get_or (set now bed word) i 0) here ∙ get_or-set_same now bed word 0 (omega (arith, added_bed, added.long))) in
            rw (← old, ← new, here, ← is_entry) is
        each b l h false e =
            let other = eqb-false b bed e in
            rw (get_or-set_other now bed b word 0 other) (added.done b l (omega (arith, other)))

  pub added_done : {now : List ℕ} {bed : ℕ} → end ≤ bed → Added store from first end sums now bed → GivesEntries store from first end sums now
  added_done past added = record { long = added.long; each = λ b l h. added.done b l (omega arith) }
