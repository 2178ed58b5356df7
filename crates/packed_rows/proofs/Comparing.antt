-- What the comparison that rows derive says: it is that of their costs and beds.
use Rattle.std.proofs.Common.{arith, refl, sym, ap, ap₂, ◌∙◌, ◌≡◌, ◌<◌, ◌∷◌}
use Rattle.std.proofs.lemmas.Cmp.{ranked}
use Rattle.std.specs.Ordering.{nat_cmp, ordering_then, MatchOrdering}
use Rattle.std.specs.Cmp.Lexicographic.{slice_cmp}
use Rattle.std.specs.declared.cmp.Ordering as Code
use Rattle.std.specs.declared.cmp.Ordering.TheVariants.{Less, Equal, Greater}
use Rattle.definitions.specs.Basics.{ℕ, compare, Ordering, ordering_lt, ordering_eq, ordering_gt, Bool, List, [], length}
use Rattle.definitions.specs.Plans.{then_by, compare_beds, compare_rows}
use Rattle.packed_rows.specs.declared.Row.{Row}
use Rattle.packed_rows.specs.Numbers.{less, more, alike}
use Rattle.packed_rows.specs.Packed.{row_of, before_or}
use Rattle.packed_rows.specs.Laws.{packed_order}

-- An answer of the code as the definitions have it.
abbrev pub ordered : Code.Ordering → Ordering
ordered Less = ordering_lt
ordered Equal = ordering_eq
ordered Greater = ordering_gt

ordered_numbers : (a b : ℕ) → ordered (nat_cmp a b) ≡ compare a b
ordered_numbers a b = go (nat_cmp a b) (ranked a b (nat_cmp a b) refl)
  where
    go : (r : Code.Ordering) → MatchOrdering r (a < b) (a ≡ b) (b < a) → ordered r ≡ compare a b
    go Less h = sym (less a b h)
    go Equal h = sym (alike a b (omega arith) (omega arith))
    go Greater h = sym (more a b h)

ordered_then : (o p : Code.Ordering) → ordered (ordering_then o p) ≡ then_by (ordered o) (ordered p)
ordered_then Less p = refl
ordered_then Equal p = refl
ordered_then Greater p = refl

ordered_words : (ws zs : List ℕ) → ordered (slice_cmp nat_cmp ws zs) ≡ compare_beds ws zs
ordered_words [] [] = refl
ordered_words [] (z ∷ zs) = refl
ordered_words (w ∷ ws) [] = refl
ordered_words (w ∷ ws) (z ∷ zs) = ordered_then (nat_cmp w z) (slice_cmp nat_cmp ws zs) ∙ ap₂ then_by (ordered_numbers w z) (ordered_words ws zs)

-- What is answered of two rows, by how they compare.
module _ (x y : Row) (p : length x.words ≡ 4) (q : length y.words ≡ 4) where
  abbrev derived : Code.Ordering
  derived = ordering_then (nat_cmp x.cost y.cost) (slice_cmp nat_cmp x.words y.words)

  derived_is : ordered derived ≡ compare_rows (row_of x) (row_of y)
  derived_is =
      ordered_then (nat_cmp x.cost y.cost) (slice_cmp nat_cmp x.words y.words)
      ∙ ap₂ then_by (ordered_numbers x.cost y.cost) (ordered_words x.words y.words ∙ sym (packed_order x.words y.words (p ∙ sym q)))

  pub answered : (tie : Bool) (o : Code.Ordering) → o ≡ derived → before_or tie (ordered o) ≡ before_or tie (compare_rows (row_of x) (row_of y))
  answered tie o e = ap (before_or tie) (ap ordered e ∙ derived_is)
