-- Beds behind beds: lists whose first parts have one length compare, and add, part by part.
use Rattle.std.specs.Prelude.{◌≡◌, refl}
use Rattle.std.proofs.Common.{sym, ap, ap₂, ◌∙◌, arith, eq-eqb, ne_eqb, ◌+◌, ◌<◌, ◌&&◌, ◌∷◌, ◌++◌}
use Rattle.definitions.specs.Basics.{ℕ, compare, Ordering, ordering_lt, ordering_eq, ordering_gt, Bool, true, false, eqb, List, [], length, same}
use Rattle.definitions.specs.Plans.{then_by, compare_beds}
use Rattle.ranking.specs.Orders.{View, before, equal, after, ℕ-view}
use Rattle.partial_rows.specs.Adding.{add_beds}

-- Their order: that of the first parts, then that of the second ones.
then_assoc : (o p q : Ordering) → then_by (then_by o p) q ≡ then_by o (then_by p q)
then_assoc ordering_lt p q = refl
then_assoc ordering_eq p q = refl
then_assoc ordering_gt p q = refl

pub then_eq : (o : Ordering) → then_by o ordering_eq ≡ o
then_eq ordering_lt = refl
then_eq ordering_eq = refl
then_eq ordering_gt = refl

pub compare_append : (xs ys us vs : List ℕ) → length xs ≡ length ys → compare_beds (xs ++ us) (ys ++ vs) ≡ then_by (compare_beds xs ys) (compare_beds us vs)
compare_append [] [] us vs e = refl
compare_append [] (y ∷ ys) us vs e = absurd (omega arith)
compare_append (x ∷ xs) [] us vs e = absurd (omega arith)
compare_append (x ∷ xs) (y ∷ ys) us vs e =
    ap (then_by (compare x y)) (compare_append xs ys us vs (omega arith)) ∙ sym (then_assoc (compare x y) (compare_beds xs ys) (compare_beds us vs))

-- Beds are the same where their comparison is a tie.
abbrev pub is_tie : Ordering → Bool
is_tie ordering_lt = false
is_tie ordering_eq = true
is_tie ordering_gt = false

tie_then : (o p : Ordering) → is_tie (then_by o p) ≡ (is_tie o && is_tie p)
tie_then ordering_lt p = refl
tie_then ordering_eq p = refl
tie_then ordering_gt p = refl

tie_one : (a b : ℕ) → eqb a b ≡ is_tie (compare a b)
tie_one a b = go (ℕ-view a b)
  where
    go : {o : Ordering} → View ◌<◌ a b o → eqb a b ≡ is_tie o
    go (before t) = ne_eqb a b (λ e. omega arith)
    go (equal e) = eq-eqb a b e
    go (after t) = ne_eqb a b (λ e. omega arith)

pub same_tie : (xs ys : List ℕ) → same eqb xs ys ≡ is_tie (compare_beds xs ys)
same_tie [] [] = refl
same_tie [] (y ∷ ys) = refl
same_tie (x ∷ xs) [] = refl
same_tie (x ∷ xs) (y ∷ ys) = ap₂ ◌&&◌ (tie_one x y) (same_tie xs ys) ∙ sym (tie_then (compare x y) (compare_beds xs ys))

-- Their sums.
pub add_append : (xs ys us vs : List ℕ) → length xs ≡ length ys → add_beds (xs ++ us) (ys ++ vs) ≡ add_beds xs ys ++ add_beds us vs
add_append [] [] us vs e = refl
add_append [] (y ∷ ys) us vs e = absurd (omega arith)
add_append (x ∷ xs) [] us vs e = absurd (omega arith)
add_append (x ∷ xs) (y ∷ ys) us vs e = ap (λ (l : List ℕ). (x + y) ∷ l) (add_append xs ys us vs (omega arith))
