-- Two rows added word by word.
use mathlib.Core.Path.{◌≡◌, sym, ap, ◌∙◌}
use native.Mathlib.Omega.{arith}
use lib.Seq.{ext_get_or}
use Rattle.std.specs.Prelude.{◌+◌, ◌<◌}
use Rattle.definitions.specs.Basics.{ℕ, List, length, get_or}
use Rattle.partial_rows.specs.Adding.{add_beds, add_rows, add_at, add_length}
use Rattle.packed_rows.specs.declared.Row.{Row}
use Rattle.packed_rows.specs.Packed.{packed_beds, row_of, Fit}
use Rattle.packed_rows.specs.Laws.{Sums, packed_sums}

-- The sums fit their words.
pub words_fit : (x y : Row) → length x.words ≡ 4 → length y.words ≡ 4 → Fit (row_of x) (row_of y) → Sums x.words y.words
words_fit x y p q fit = packed_sums x.words y.words (p ∙ sym q) (λ s. rw (add_at (packed_beds x.words) (packed_beds y.words) s) (fit.beds s))

-- The first j words are added.
pub record Added (xs ys : List ℕ) (j : ℕ) (words : List ℕ) : Type 0 where
  pub first : (k : ℕ) → k < j → get_or words k 0 ≡ get_or xs k 0 + get_or ys k 0
  pub long : length words ≡ 4

module _ (xs ys : List ℕ) where
  words_added : (words : List ℕ) → length xs ≡ 4 → length ys ≡ 4 → Added xs ys 4 words → words ≡ add_beds xs ys
  words_added words p q r = ext_get_or 0 words (add_beds xs ys) (r.long ∙ sym (add_length xs ys (p ∙ sym q) ∙ q)) (λ k l. r.first k (omega (arith, r.long)) ∙ sym (add_at xs ys k))

pub all_added : (x y : Row) (j : ℕ) (words : List ℕ) → j ≡ 4 → length x.words ≡ 4 → length y.words ≡ 4 → Fit (row_of x) (row_of y) → Added x.words y.words j words
    → row_of (record { cost = x.cost + y.cost; words = words }) ≡ add_rows (row_of x) (row_of y)
all_added x y j words e p q fit r =
    let s : Added x.words y.words 4 words = rw e at r in
    ap (λ (b : List ℕ). record { cost = x.cost + y.cost; beds = b })
    (ap packed_beds (words_added x.words y.words words p q s) ∙ (words_fit x y p q fit).beds)
