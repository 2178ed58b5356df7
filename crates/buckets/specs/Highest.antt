-- A table is in the bucket of its last member.
use Rattle.std.proofs.Common.{sym, ap, ◌∙◌, true≢false, arith, ltb-true, lt-ltb, le-ltb, eqb-true, ◌-◌, ◌<◌, ◌≡◌, ◌&&◌, ◌||◌, ◌∷◌}
use Rattle.std.proofs.Math.Bool.{and-false}
use Rattle.std.proofs.lemmas.Bool.{not-true}
use Rattle.definitions.specs.Basics.{ℕ, suc, refl, Bool, true, false, not, List, [], length, get_or, eqb, ltb, every, every_two, any}
use Rattle.definitions.specs.Syntax.{Table}
use Rattle.lists.specs.Tests.{both}
use Rattle.lists.specs.Members.{◌∈◌}
use Rattle.lists.specs.Every.{any_in, any_out}
use Rattle.partial_rows.specs.Sets.{only}
use Rattle.partial_rows.specs.Rows.{holds}
use Rattle.buckets.specs.Terms.{highest}

-- Members rise, so the last is the highest.
module _ (s : ℕ) where
  last_member : (x : ℕ) (l : List ℕ) → every_two ltb (x ∷ l) ≡ true
      → (any (only s) (x ∷ l) && not (any (ltb s) (x ∷ l))) ≡ eqb s (get_or (x ∷ l) (length l) 0)
  last_member x [] up = one (eqb s x) refl
    where
      one : (b : Bool) → eqb s x ≡ b → ((b || false) && not (ltb s x || false)) ≡ b
      one true e = ap (λ b. not (b || false)) (le-ltb s x (omega (arith, eqb-true s x e)))
      one false e = refl
  last_member x (y ∷ l) up =
      let first : ltb x y ≡ true = (both (ltb x y) (both (every (ltb x) (y ∷ l)) up).0).0 in
      let lower : x < y = ltb-true x y first in
      step (eqb s x) (ltb s x) (any (only s) (y ∷ l)) (any (ltb s) (y ∷ l))
      (λ e. ap (λ b. b || any (ltb s) l) (lt-ltb s y (omega (arith, eqb-true s x e))))
      (λ e. ap (λ b. b || any (ltb s) l) (lt-ltb s y (omega (arith, ltb-true s x e))))
      ∙ last_member y l (both (every (ltb x) (y ∷ l)) up).1
    where
      step : (a b c d : Bool) → (a ≡ true → d ≡ true) → (b ≡ true → d ≡ true) → ((a || c) && not (b || d)) ≡ (c && not d)
      step true true c d h k = sym (ap (λ x. c && not x) (h refl) ∙ and-false c)
      step true false c d h k = ap not (h refl) ∙ sym (ap (λ x. c && not x) (h refl) ∙ and-false c)
      step false true c d h k = ap (λ x. c && not x) (sym (k refl))
      step false false c d h k = refl

  pub in_bucket : (t : Table) → 0 < length t.members → every_two ltb t.members ≡ true
      → highest s t ≡ eqb s (get_or t.members (length t.members - 1) 0)
  in_bucket t filled up = go t.members filled up
    where
      go : (l : List ℕ) → 0 < length l → every_two ltb l ≡ true → (any (only s) l && not (any (ltb s) l)) ≡ eqb s (get_or l (length l - 1) 0)
      go [] h up = absurd (omega arith)
      go (x ∷ l) h up =
          let last : length l ≡ suc (length l) - 1 = omega arith in
          last_member x l up ∙ ap (λ n. eqb s (get_or (x ∷ l) n 0)) last

-- The highest member is one of the members, and none is higher.
module _ (s : ℕ) (t : Table) (top : highest s t ≡ true) where
  pub highest_in : s ∈ t.members
  highest_in =
      let (a, among, is) = any_out (only s) t.members (both (holds (only s) t) top).0 in
      rw (eqb-true s a is) among

  pub none_higher : (q : ℕ) → q ∈ t.members → s < q → ⊥
  none_higher q among h = true≢false (sym (any_in (ltb s) t.members among (lt-ltb s q h)) ∙ not-true _ (both (holds (only s) t) top).1)
