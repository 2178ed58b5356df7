-- The part of a lent file that line hands back.
use Rattle.std.proofs.Common.{◌≡◌, ap, ◌∙◌, arith, length-drop}
use Rattle.std.proofs.Math.ListN.{length-take}
use Rattle.std.specs.Prelude.{◌+◌, ◌-◌, ◌≤◌, take, drop}
use Rattle.definitions.specs.Basics.{ℕ, List, length}
use Rattle.definitions.specs.Lookup.{LineOutcome, line_outcome, part_of}
use Rattle.theorems.specs.Lookup.{part_within}
use Rattle.line_finder.specs.Found.{no_line}

module _ (file typed : List ℕ) {found : LineOutcome} (is : found ≡ line_outcome file typed) where
  pub within : found.part.start + found.part.size ≤ length file
  within =
      let same : found.part.start + found.part.size ≡ (line_outcome file typed).part.start + (line_outcome file typed).part.size = ap (λ (o : LineOutcome). o.part.start + o.part.size) is in
      omega (arith, same, part_within file typed)

  -- The bytes from the part's start to its end.
  abbrev between : List ℕ
  between = take (found.part.start + found.part.size - found.part.start) (drop found.part.start file)

  pub handed_back : (block place : ℕ)
      → record { number = found.number; block = block; place = found.part.start + place; size = length between; bytes = between } ≡ part_of block place file (line_outcome file typed)
  handed_back block place =
      let start = found.part.start in
      let all : start + found.part.size - start ≡ found.part.size = omega arith in
      let long : length between ≡ found.part.size = omega (arith, all, within, length-take (start + found.part.size - start) (drop start file), length-drop start file) in
      let behind : start + place ≡ place + start = omega arith in
      (λ i. record { number = found.number; block = block; place = behind i; size = long i; bytes = take (all i) (drop start file) })
      ∙ ap (part_of block place file) is

-- The end of the file, where no line is handed back.
pub handed_end : (file typed : List ℕ) {number : ℕ} → no_line number (length file) ≡ line_outcome file typed → (block place : ℕ)
    → record { number = number; block = block; place = length file + place; size = length (take (length file - length file) (drop (length file) file)); bytes = take (length file - length file) (drop (length file) file) }
    ≡ part_of block place file (line_outcome file typed)
handed_end file typed is block place = let none : length file + 0 - length file ≡ length file - length file = omega arith in rw none at (handed_back file typed is block place)
