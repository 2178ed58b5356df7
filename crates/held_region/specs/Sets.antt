-- Sets of patients that a loop fills, or walks from the lowest on.
use Rattle.std.specs.Prelude.{◌≡◌, refl, ◌≤◌}
use Rattle.std.proofs.Common.{sym, ap, ◌∙◌, arith, lit<, lt-ltb, le-ltb, eq-eqb, ne_eqb, ◌+◌, ◌<◌, ◌&&◌, ◌||◌, ◌∷◌}
use Rattle.std.proofs.Math.Path.{fun_ext}
use Rattle.std.proofs.Math.Bool.{or-false, and-true, and-false}
use Rattle.std.proofs.lemmas.Bool.{false≢true}
use Rattle.std.proofs.Math.Decide.{dec_lt, dec_le}
use Rattle.lists.specs.Keep.{keep_keep, keep_empty}
use Rattle.lists.specs.Rising.{kept_below}
use Rattle.patient_set.specs.Laws.{outside}
use Rattle.patient_set.specs.Sets.{in_set, members, first}
use Rattle.definitions.specs.Basics.{ℕ, Bool, true, false, not, List, [], eqb, ltb, is_empty, below, every, every_two, keep, contains}

-- Nobody is in the empty set.
pub in_none : (q : ℕ) → in_set 0 q ≡ false
in_none q = outside 0 0 q (lit< tt) (omega arith)

-- A loop that adds the places that pass a test, at place s: one more place, added or not.
module _ (t : ℕ → Bool) (s q : ℕ) where
  pub one_place : (b : Bool) → t s ≡ b → (ltb q s && t q || b && eqb q s) ≡ (ltb q (s + 1) && t q)
  one_place b e = go (dec_lt q s) (dec_le q s)
    where
      apart : eqb q s ≡ false → ltb q s ≡ ltb q (s + 1) → (ltb q s && t q || b && eqb q s) ≡ (ltb q (s + 1) && t q)
      apart other same = ap (λ x. ltb q s && t q || b && x) other ∙ ap (λ x. ltb q s && t q || x) (and-false b) ∙ or-false (ltb q s && t q) ∙ ap (λ x. x && t q) same

      go : Dec (q < s) → Dec (q ≤ s) → (ltb q s && t q || b && eqb q s) ≡ (ltb q (s + 1) && t q)
      go (yes l) d = apart (ne_eqb q s (λ z. omega arith)) (lt-ltb q s l ∙ sym (lt-ltb q (s + 1) (omega arith)))
      go (no l) (no m) = apart (ne_eqb q s (λ z. omega arith)) (le-ltb q s (omega arith) ∙ sym (le-ltb q (s + 1) (omega arith)))
      go (no l) (yes m) =
          let same : q ≡ s = omega arith in
          ap (λ x. x && t q || b && eqb q s) (le-ltb q s (omega arith)) ∙ ap (λ x. b && x) (eq-eqb q s same) ∙ and-true b
          ∙ sym (ap (λ x. x && t q) (lt-ltb q (s + 1) (omega arith)) ∙ ap t same ∙ e)

-- A set that has a rising list's patients has the list as its members.
pub set_members : (w : ℕ) (l : List ℕ) → every_two ltb l ≡ true → every (λ q. ltb q 32) l ≡ true → ((q : ℕ) → in_set w q ≡ contains l q) → members w ≡ l
unfolding members
set_members w l up known is = ap (λ f. keep f (below 32)) (fun_ext is) ∙ kept_below 32 l up known

-- Nobody of a set is lower than b and missing in another set where all that are lower are in it.
pub lower_left : (w a m b : ℕ) → ((q : ℕ) → in_set m q ≡ (in_set w q && ltb q b && not (in_set a q))) → is_empty (members m) ≡ every (in_set a) (keep (λ q. ltb q b) (members w))
unfolding members
lower_left w a m b is =
    ap (λ f. is_empty (keep f (below 32))) (fun_ext is) ∙ keep_empty (λ q. in_set w q && ltb q b) (in_set a) (below 32)
    ∙ ap (every (in_set a)) (sym (keep_keep (λ q. ltb q b) (in_set w) (below 32)))

-- A loop that asks a test of each patient of a set, the lowest first: a no is the answer, a yes asks the rest, and of none the answer is yes.
module _ (f : ℕ → Bool) (w : ℕ) {answer : Bool} (asked : every f (members w) ≡ answer) where
  pub walk_no : (low : ℕ) → is_empty (members w) ≡ false → low ≡ first 32 (members w) → f low ≡ false → false ≡ answer
  walk_no low filled lowest no_low = sym (go (members w) filled (ap f (sym lowest) ∙ no_low)) ∙ asked
    where
      go : (l : List ℕ) → is_empty l ≡ false → f (first 32 l) ≡ false → every f l ≡ false
      go [] e fails = absurd (false≢true (sym e))
      go (x ∷ l) e fails = ap (λ b. b && every f l) fails

  pub walk_yes : (low rest : ℕ) → members w ≡ low ∷ members rest → f low ≡ true → every f (members rest) ≡ answer
  walk_yes low rest split yes_low = sym (ap (every f) split ∙ ap (λ b. b && every f (members rest)) yes_low) ∙ asked

  pub walk_done : is_empty (members w) ≡ true → true ≡ answer
  walk_done e = sym (go (members w) e) ∙ asked
    where
      go : (l : List ℕ) → is_empty l ≡ true → every f l ≡ true
      go [] e' = refl
      go (x ∷ l) e' = absurd (false≢true e')
