-- Rows whose beds are packed into words, four bits each: what they hold.
use Rattle.std.specs.Prelude.{◌+◌, ◌-◌, ◌/◌, ◌%◌, ◌<◌, ◌∷◌, ◌++◌}
use Rattle.definitions.specs.Basics.{ℕ, zero, suc, Ordering, ordering_lt, ordering_eq, ordering_gt, Bool, true, false}
use Rattle.definitions.specs.Basics.{List, [], map, flat_map, take, replicate}
use Rattle.definitions.specs.Plans as Said
use Rattle.definitions.specs.Plans.{bed_of}
use Rattle.packed_rows.specs.declared.Row.{Row}

-- The beds that a word holds, four bits each, the first one highest: one more than k of them. The first has what is left.
unfoldable pub beds_of_word : ℕ → ℕ → List ℕ
beds_of_word zero w = w ∷ []
beds_of_word (suc k) w = beds_of_word k (w / 16) ++ (w % 16 ∷ [])

-- The beds that words hold, eight to a word.
unfoldable pub packed_beds : List ℕ → List ℕ
packed_beds words = flat_map (beds_of_word 7) words

-- The row that a struct holds.
abbrev pub row_of : Row → Said.Row
row_of x = record { cost = x.cost; beds = packed_beds x.words }

-- Does a comparison say "before", and what is said at a tie; "before", and not at a tie.
abbrev pub before_or : Bool → Ordering → Bool
before_or tie ordering_lt = true
before_or tie ordering_eq = tie
before_or tie ordering_gt = false

abbrev pub is_before : Ordering → Bool
is_before o = before_or false o

-- Beds as they are packed for v patients: four bits of each, and bed 0 for the rest of 32.
abbrev pub packable : ℕ → List ℕ → List ℕ
packable v beds = map (λ b. b % 16) (take v beds) ++ replicate (32 - v) 0

-- Two rows whose sum fits: the cost 64 bits, and each bed four.
pub record Fit (x y : Said.Row) : Type 0 where
  pub cost : x.cost + y.cost < 18_446_744_073_709_551_616
  pub beds : (s : ℕ) → bed_of x.beds s + bed_of y.beds s < 16
