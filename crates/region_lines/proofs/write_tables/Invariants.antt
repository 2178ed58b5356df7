use mathlib.Core.Path.{◌≡◌}
use mathlib.Core.List.{[], ◌∷◌, map}
use Rattle.definitions.specs.Basics.{below}
use Rattle.definitions.specs.Spelling.{spell_table}
use Rattle.held_region.specs.Meaning.{start_in, table_said}
use Rattle.text_writer.specs.Wrote.{Left}
use Rattle.text_writer.specs.Parts.{lines_from}
use Rattle.region_lines.specs.Spelled.{table_lines}
use Rattle.region_lines.proofs.write_tables.Given as goal

abbrev pub invariant-loop-i : goal.invariant-loop-i
invariant-loop-i l = (l.start ≡ start_in l.region l.i) × (Left (table_lines l.region l.store) l.at l.initial.out (lines_from spell_table (map (table_said l.region l.store) (below l.region.t)) l.i ∷ []) l.out l.next)
