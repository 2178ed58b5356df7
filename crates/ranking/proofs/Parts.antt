-- Things made of two independent parts, ranked: their left parts, where each first comes up, are the first left parts.
use Rattle.std.proofs.Common.{ap, inl, inr, ◌≡◌, ◌∷◌}
use Rattle.std.specs.Prelude.{◌⊎◌}
use Rattle.definitions.specs.Basics.{ℕ, suc, refl, Bool, List, [], map, length, first_occurrences}
use Rattle.lists.specs.Members.{here}
use Rattle.ranking.specs.Orders.{Order}
use Rattle.ranking.specs.First.{First, Least, first_zero, first_nil, first_least}
use Rattle.ranking.specs.Occurrences.{Tests, Rows}
use Rattle.ranking.proofs.Occurrences.{rows_first}
use Rattle.ranking.specs.Combining.{Combined, Rising}

module _ {A B C K : Type 0} {O : Order A} {U : Order B} {W : Order C} {combine : A → B → C} {P : A → Type 0} {Q : B → Type 0}
    (rising : Rising O U W combine P Q) (part : C → A) (key : A → K)
    (part_of : (a : A) (b : B) → P a → Q b → part (combine a b) ≡ a) (one : (a x : A) → P a → P x → key a ≡ key x → a ≡ x) where
  -- The best thing of a left part combines it with the best right part.
  best_rest : (b : B) → Q b → Least U Q b → Rows W O part (λ a. combine a b) key (Combined combine P Q) P
  best_rest b q least = record {
    rows = λ z c. rw (c.is, part_of c.left c.right c.in_left c.in_right) c.in_left;
    things = λ a p. record { left = a; right = b; in_left = p; in_right = q; is = refl };
    back = λ a p. part_of a b p q;
    least = λ z c. rw (c.is, part_of c.left c.right c.in_left c.in_right) (not_better c.left c.right c.in_left c.in_right);
    rising = λ a x p s. rising.in_left a x b p s q;
    one = one;
  }
    where
      not_better : (a : A) (y : B) → P a → Q y → (combine a y ≡ combine a b) ⊎ W.Lt (combine a b) (combine a y)
      not_better a y p r = elim (least y r) [ inl e ↦ inl (ap (combine a) e) | inr t ↦ inr (rising.in_right a b y p q r t) ]

  pub parts_first : {alike : A → A → Bool} {m n : ℕ} {l : List C} {ys : List B} → Tests key alike → First U (suc n) Q ys → First W m (Combined combine P Q) l
      → First O (length (first_occurrences alike [] (map part l))) P (first_occurrences alike [] (map part l))
  parts_first {l = []} tests g h = first_zero
  parts_first {l = z ∷ l} {ys = []} tests g h = let c = h.sound (here refl) in absurd (first_nil g c.right c.in_right)
  parts_first {l = z ∷ l} {ys = y ∷ ys} tests g h = rows_first tests (best_rest y (g.sound (here refl)) (first_least g)) h
