-- Rows whose words are the same, place by place, have the same beds.
use Rattle.std.specs.List.{list_all, range_with_len}
use Rattle.std.proofs.Common.{sym, ap₂, ◌∙◌, ◌≡◌, ◌∷◌}
use Rattle.definitions.specs.Basics.{ℕ, Bool, eqb, List, [], length, get_or, same}
use Rattle.definitions.specs.Sheets.{same_beds}
use Rattle.lists.specs.Below.{by_number}
use Rattle.packed_rows.specs.declared.Row.{Row}
use Rattle.packed_rows.specs.Packed.{row_of}
use Rattle.packed_rows.specs.Laws.{packed_same}

-- Is word j of both the same?
abbrev pub same_at : Row → Row → ℕ → Bool
same_at x y j = eqb (get_or x.words j 0) (get_or y.words j 0)

four : (words : List ℕ) → length words ≡ 4 → get_or words 0 0 ∷ get_or words 1 0 ∷ get_or words 2 0 ∷ get_or words 3 0 ∷ [] ≡ words
four words p = rw p at (by_number words 0)

pub all_words : (x y : Row) → length x.words ≡ 4 → length y.words ≡ 4 → list_all (same_at x y) (range_with_len 0 4) ≡ same_beds (row_of x) (row_of y)
all_words x y p q = ap₂ (same eqb) (four x.words p) (four y.words q) ∙ sym (packed_same x.words y.words (p ∙ sym q))
