use mathlib.Core.List.{[], ◌∷◌, map}
use Rattle.text_writer.specs.Wrote.{Left}
use Rattle.text_writer.specs.Parts.{apart, from_part, apart_from}
use Rattle.region_lines.specs.Codes.{spell_code}
use Rattle.region_lines.proofs.forms.write_codes.Given as goal

abbrev pub invariant-loop-i : goal.invariant-loop-i
invariant-loop-i l = Left (apart l.before (map spell_code l.codes)) l.at l.initial.out (apart_from spell_code (from_part l.before) l.codes l.i ∷ []) l.out l.next
