-- The first no of a region's questions from the fifth on, question by question.
use mathlib.Core.Path.{◌≡◌, sym, ap, ◌∙◌}
use Prim.Native.Nat.{◌≤◌}
use native.Mathlib.Omega.{arith}
use Rattle.std.specs.Prelude.{◌&&◌, ◌||◌}
use Rattle.definitions.specs.Basics.{ℕ, Bool, true, false, not, List}
use Rattle.definitions.specs.Syntax.{Region}
use Rattle.definitions.specs.Questions.{first_no, counts_within, patients_within, parents_smaller, members_right, entry_counts_right, entries_within, members_related}
use Rattle.held_region.specs.declared.Region as Held
use Rattle.held_region.specs.Meaning.{said}
use Rattle.held_region.specs.Entries.{store_fits, total_said, total_most, entries_asked}
use Rattle.held_region.specs.Refusals.{asked, last_asked}
use Rattle.std.specs.Prelude.{Option, Some, None, Ok, Err, refl}
use Rattle.std.specs.Option.{ok_or}
use Rattle.held_region.specs.declared.Refusal.{Refusal}
use Rattle.std.specs.Option.{is_some}
use Rattle.entry_questions.specs.Counting.{EntriesCounted}

module _ (r : Region) (parents : Bool) where
  pub no_five : counts_within r ≡ false → 5 ≡ first_no (asked parents r)
  unfolding asked
  no_five e = simp e

  module _ (five : counts_within r ≡ true) where
    pub no_six : (patients_within r && (not parents || parents_smaller r)) ≡ false → 6 ≡ first_no (asked parents r)
    unfolding asked
    no_six e = simp (five, e)

    module _ (six : (patients_within r && (not parents || parents_smaller r)) ≡ true) where
      pub no_seven : members_right r ≡ false → 7 ≡ first_no (asked parents r)
      unfolding asked
      no_seven e = simp (five, six, e)

      pub first_yes : {n : ℕ} → members_right r ≡ true → n ≡ first_no (last_asked parents r) → n ≡ first_no (asked parents r)
      unfolding asked last_asked
      first_yes e last = simp (five, six, e) last

  pub no_eight : entry_counts_right r ≡ false → 8 ≡ first_no (last_asked parents r)
  unfolding last_asked
  no_eight e = simp e

  module _ (eight : entry_counts_right r ≡ true) where
    pub no_nine : entries_within r ≡ false → 9 ≡ first_no (last_asked parents r)
    unfolding last_asked
    no_nine e = simp (eight, e)

    module _ (nine : entries_within r ≡ true) where
      pub no_parents : parents ≡ false → 0 ≡ first_no (last_asked parents r)
      unfolding last_asked
      no_parents e = simp (eight, nine, e)

      pub no_ten : parents ≡ true → members_related r ≡ false → 10 ≡ first_no (last_asked parents r)
      unfolding last_asked
      no_ten p e = simp (eight, nine, p, e)

      pub all_yes_lem : parents ≡ true → members_related r ≡ true → 0 ≡ first_no (last_asked parents r)
      unfolding last_asked
      all_yes_lem p e = simp (eight, nine, p, e)

-- Where question 8 is answered yes, question 9 is asked of the store as far as the total says.
module _ (h : Held.Region) (store : List ℕ) {c : Option ℕ} (counted : EntriesCounted h c) {total : ℕ} (right : c ≡ Some total) where
  pub eight_yes : entry_counts_right (said h store) ≡ true
  eight_yes = sym (counted.asked store) ∙ ap is_some right

  pub total_fits : total ≤ 4096
  total_fits = omega (arith, counted.total total right, total_said h store, total_most (said h store) eight_yes)

  pub nine_asked : {answer : Bool} → answer ≡ store_fits total store → answer ≡ entries_within (said h store)
  nine_asked e = e ∙ ap (λ n. store_fits n store) (counted.total total right) ∙ sym (entries_asked h store)

-- What was counted, where the count went on as a result.
pub counted_some : {o : Option ℕ} (refusal : Refusal) {n : ℕ} → ok_or o refusal ≡ Ok n → o ≡ Some n
counted_some {o} refusal {n} e = elim o as (λ p. ok_or p refusal ≡ Ok n → p ≡ Some n) [ Some k ↦ λ f. cc | None ↦ λ f. absurd (cc) ] e

pub counted_none : {o : Option ℕ} (refusal : Refusal) {other : Refusal} → ok_or o refusal ≡ Err other → (o ≡ None) × (refusal ≡ other)
counted_none {o} refusal {other} e = elim o as (λ p. ok_or p refusal ≡ Err other → (p ≡ None) × (refusal ≡ other)) [ Some k ↦ λ f. absurd (cc) | None ↦ λ f. (refl, cc) ] e
