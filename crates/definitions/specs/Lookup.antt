-- Request #103: the line of the table over some members, as a part of the file itself.
use Rattle.std.specs.Prelude.{◌+◌, ◌-◌, ◌∷◌}
use Rattle.definitions.specs.Basics.{ℕ, zero, suc, Bool, false, cond, none, some, option_get_or, List, []}
use Rattle.definitions.specs.Basics.{length, take, drop, eqb, same, is_some}
use Rattle.definitions.specs.Layout.{number, whole, lines, items, table_line}
use Rattle.definitions.specs.Questions.{Asked, first_no, asked_by_check, Asks, entry_asks}

-- A part of a file: the place where it starts, and its length; the bytes that stand there.
pub record FilePart : Type 0 where
  pub start : ℕ
  pub size : ℕ

abbrev pub bytes_at : FilePart → List ℕ → List ℕ
bytes_at part file = take part.size (drop part.start file)

-- 21. Do the typed members have the layout of a member list?
unfoldable pub typed_right : List ℕ → Bool
typed_right typed = is_some (whole (items number) typed)

-- The typed members. (Where 21 is answered no, this stand-in does not count.)
unfoldable pub typed_members : List ℕ → List ℕ
typed_members typed = option_get_or (whole (items number) typed) []

-- Is a line that of a table over these members, in their order?
unfoldable pub is_over : List ℕ → List ℕ → Bool
is_over members l = elim (whole table_line l) [ none ↦ false | some t ↦ same eqb t.members members ]

-- The first of some lines that passes a test, without its line end, where the lines start at a place; the empty part at their end where none does.
abbrev pub first_line : (List ℕ → Bool) → ℕ → List (List ℕ) → FilePart
first_line test start [] = record { start = start; size = 0 }
first_line test start (l ∷ ls) = cond (test l) (record { start = start; size = length l - 1 }) (first_line test (start + length l) ls)

unfoldable pub line_over : List ℕ → List ℕ → FilePart
line_over file typed = first_line (is_over (typed_members typed)) 0 (lines file)

-- Line asks 1 to 10, then 21.
unfoldable pub asked_by_line : List ℕ → List ℕ → Asks
asked_by_line file typed = record { first = asked_by_check file; later = (21, typed_right typed) ∷ [] }

-- What line gives back: the number, and the part.
pub record LineOutcome : Type 0 where
  pub number : ℕ
  pub part : FilePart

-- A refusal hands back the empty part at the file's end.
abbrev pub part_unless_refused : ℕ → List ℕ → FilePart → FilePart
part_unless_refused zero file part = part
part_unless_refused (suc q) file part = record { start = length file; size = 0 }

-- What is asked is handed in, since a call from C asks more.
unfoldable pub line_found : List ℕ → List ℕ → Asked → LineOutcome
line_found file typed asked = record { number = first_no asked; part = part_unless_refused (first_no asked) file (line_over file typed) }

unfoldable pub line_outcome : List ℕ → List ℕ → LineOutcome
line_outcome file typed = line_found file typed (entry_asks (asked_by_line file typed))

-- What line hands back, as it lies in memory: the number, the block and the place in it where the part starts, its length and its bytes.
pub record HandedBack : Type 0 where
  pub number : ℕ
  pub block : ℕ
  pub place : ℕ
  pub size : ℕ
  pub bytes : List ℕ

-- That very part of the file, never a copy: it lies in the file's own block, so far behind the place where the file starts.
abbrev pub part_of : ℕ → ℕ → List ℕ → LineOutcome → HandedBack
part_of block place file found = record {
  number = found.number;
  block = block;
  place = place + found.part.start;
  size = found.part.size;
  bytes = bytes_at found.part file;
}
