-- Rows printed from a list that holds them.
use Rattle.std.specs.Prelude.{◌≤◌, ◌*◌, ◌++◌}
use Rattle.definitions.specs.Basics.{ℕ, List, flat_map, length, text}
use Rattle.definitions.specs.Spelling.{decimal}
use Rattle.definitions.specs.Plans.{Row}
use Rattle.definitions.specs.Output.{printed_row}
use Rattle.text_writer.specs.Wrote.{Room}

-- What follows a title: the row count, the line's end, and the rows.
unfoldable pub counted : List Row → List ℕ
counted rows = decimal (length rows) ++ (text ")\n" ++ flat_map printed_row rows)

-- The first n rows lie in the list, and what is printed of them has room.
pub record Printable (whole : List ℕ) (v n : ℕ) (list : List ℕ) (at : ℕ) (out : List ℕ) : Type 0 where
  pub patients : v ≤ 32
  pub held : n * 6 ≤ length list
  pub room : Room whole at out
