-- Passing a word letter by letter: what is left to pass is what was asked.
use mathlib.Core.Path.{◌≡◌, refl, sym, ap, ap₂, ◌∙◌}
use mathlib.Core.List.{List, ◌∷◌}
use mathlib.Core.Bool.{true}
use mathlib.Core.Option.{none, some}
use Prim.Native.Nat.{ℕ, suc, ◌+◌, ◌≤◌, ◌<◌, max}
use native.Mathlib.Numerals.{add-one}
use native.Mathlib.Decide.{dec_lt}
use native.Mathlib.Omega.{arith}
use lib.ListN.{length, get_or, drop, drop_of_length-le}
use lib.Seq.{drop-cons}
use Rattle.definitions.specs.Basics.{every}
use Rattle.definitions.specs.Layout.{exactly}
use Rattle.lists.specs.Every.{every_at}
use Rattle.scanner.specs.declared.Class.{Class}
use Rattle.scanner.specs.declared.Class.TheVariants.{Letter, Other}
use Rattle.scanner.specs.Classes.{is_letter, first_class, letter_says}
use Rattle.scanner.specs.Answers.{ReadAt}
use Rattle.scanner.specs.Words.{exactly_short, exactly_same, exactly_other}
use Rattle.scanner.proofs.Classes.{letter_class, class_there, class_within}

pub record Passing (w s : List ℕ) (at i k : ℕ) : Type 0 where
  pub low : at ≤ i
  pub high : i ≤ max at (length s)
  pub same : exactly (drop k w) (drop i s) ≡ exactly w (drop at s)

pub passing_start : (w s : List ℕ) (at : ℕ) → Passing w s at at 0
passing_start w s at = record { low = omega arith; high = omega arith; same = refl }

letter_not : {l : ℕ} → Letter l ≡ Other → ⊥
letter_not e = let z : ◌≡◌ {A = ℕ} 0 1 = cc in omega arith

module _ {w s : List ℕ} {at i k : ℕ} (p : Passing w s at i k) where
  module _ (hk : k < length w) where
    module _ (hi : i < length s) where
      here : exactly (get_or w k 0 ∷ drop (suc k) w) (get_or s i 0 ∷ drop (suc i) s) ≡ exactly w (drop at s)
      here = sym (ap₂ exactly (drop-cons w k 0 hk) (drop-cons s i 0 hi)) ∙ p.same

      pub passing_on : get_or w k 0 ≡ get_or s i 0 → Passing w s at (i + 1) (k + 1)
      passing_on e =
          let l = p.low in
          record {
            low = omega arith;
            high = omega arith;
            same = rw (add-one i, add-one k) (sym (exactly_same (get_or w k 0) (get_or s i 0) (drop (suc k) w) (drop (suc i) s) e) ∙ here);
          }

      pub passing_other : (get_or w k 0 ≡ get_or s i 0 → ⊥) → ReadAt (exactly w) s at none
      passing_other e = record { says = sym (exactly_other (get_or w k 0) (get_or s i 0) (drop (suc k) w) (drop (suc i) s) e) ∙ here; ahead = tt }

    pub passing_short : length s ≤ i → ReadAt (exactly w) s at none
    passing_short h = record {
      says = sym (exactly_short (get_or w k 0) (drop (suc k) w)) ∙ sym (ap₂ exactly (drop-cons w k 0 hk) (drop_of_length-le s h)) ∙ p.same;
      ahead = tt;
    }

  pub passing_done : length w ≤ k → ReadAt (exactly w) s at (some (tt, i))
  passing_done h = record { says = sym (ap (λ v. exactly v (drop i s)) (drop_of_length-le w h)) ∙ p.same; ahead = (p.low, p.high) }

  -- A letter at the place, by its class.
  module _ {l : ℕ} (e : first_class (drop i s) ≡ Letter l) where
    pub letter_within : i < length s
    letter_within = class_within s i letter_not e

    is : l ≡ get_or s i 0
    is = letter_says (get_or s i 0) (class_there s i letter_within ∙ e)

    pub letter_same : k < length w → get_or w k 0 ≡ l → Passing w s at (i + 1) (k + 1)
    letter_same hk same = passing_on hk letter_within (same ∙ is)

    pub letter_other : k < length w → (get_or w k 0 ≡ l → ⊥) → ReadAt (exactly w) s at none
    letter_other hk n = passing_other hk letter_within (λ e. n (e ∙ sym is))

  -- No letter, where the word has one.
  pub letter_missing : every is_letter w ≡ true → k < length w → {c : Class} → c ≡ first_class (drop i s) → ((l : ℕ) → c ≡ Letter l → ⊥) → ReadAt (exactly w) s at none
  letter_missing letters hk {c} q t = elim (dec_lt i (length s)) [
    | yes h ↦ passing_other hk h (λ e. t (get_or s i 0) (q ∙ sym (class_there s i h) ∙ letter_class (get_or s i 0) (rw e at (every_at is_letter w k 0 hk letters))))
    | no h ↦ passing_short hk (omega arith)
  ]
