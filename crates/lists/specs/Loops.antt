-- Loops over the places below n.
use Rattle.std.specs.Prelude.{◌≡◌, ◌≤◌}
use Rattle.std.proofs.Math.Path.{sym, ap}
use Rattle.std.proofs.Common.{◌∙◌, add-one, arith, ◌+◌, ◌-◌, ◌<◌, ◌&&◌, ◌∷◌}
use Rattle.definitions.specs.Basics.{ℕ, suc, Bool, true, false, List, [], numbers_from, below, every}

-- A loop over the places below n: those that are left at place i. All are left at the start, then i and the rest, and at the end none.
unfoldable pub places_from : ℕ → ℕ → List ℕ
places_from n i = numbers_from i (n - i)

pub places_all : (n : ℕ) → places_from n 0 ≡ below n
unfolding places_from
places_all n =
    let all : n - 0 ≡ n = omega arith in
    ap below all

pub places_next : (n i : ℕ) → i < n → places_from n i ≡ i ∷ places_from n (i + 1)
unfolding places_from
places_next n i h =
    let left : n - i ≡ suc (n - (i + 1)) = omega arith in
    ap (numbers_from i) left ∙ ap (λ j. i ∷ numbers_from j (n - (i + 1))) (sym (add-one i))

pub places_done : (n i : ℕ) → n ≤ i → places_from n i ≡ []
unfolding places_from
places_done n i h =
    let none_left : n - i ≡ 0 = omega arith in
    ap (numbers_from i) none_left

-- A loop that asks a test of each place: a yes asks the rest, a no is the answer, and at the end the answer is yes.
unfoldable pub asked_from : (ℕ → Bool) → ℕ → ℕ → Bool
asked_from f n i = every f (places_from n i)

module _ (f : ℕ → Bool) (n : ℕ) where
  pub ask_all : {answer : Bool} → answer ≡ every f (below n) → asked_from f n 0 ≡ answer
  unfolding asked_from
  ask_all e = ap (every f) (places_all n) ∙ sym e

  pub ask_yes : {answer : Bool} (i : ℕ) → i < n → f i ≡ true → asked_from f n i ≡ answer → asked_from f n (i + 1) ≡ answer
  unfolding asked_from
  ask_yes i h yes_i e = sym (ap (every f) (places_next n i h) ∙ ap (λ b. b && every f (places_from n (i + 1))) yes_i) ∙ e

  pub ask_no : {answer : Bool} (i : ℕ) → i < n → f i ≡ false → asked_from f n i ≡ answer → false ≡ answer
  unfolding asked_from
  ask_no i h no_i e = sym (ap (every f) (places_next n i h) ∙ ap (λ b. b && every f (places_from n (i + 1))) no_i) ∙ e

  pub ask_done : {answer : Bool} (i : ℕ) → n ≤ i → asked_from f n i ≡ answer → true ≡ answer
  unfolding asked_from
  ask_done i h e = sym (ap (every f) (places_done n i h)) ∙ e
