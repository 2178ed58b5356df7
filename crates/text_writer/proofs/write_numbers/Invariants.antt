use Rattle.std.proofs.Common.{[], ◌∷◌, map}
use Rattle.definitions.specs.Spelling.{decimal}
use Rattle.text_writer.specs.Wrote.{Left}
use Rattle.text_writer.specs.Parts.{apart, from_zero, apart_from}
use Rattle.text_writer.proofs.write_numbers.Given as goal

abbrev pub invariant-loop-i : goal.invariant-loop-i
invariant-loop-i l = Left (apart 0 (map decimal l.numbers)) l.initial.next l.initial.out (apart_from decimal from_zero l.numbers l.i ∷ []) l.out l.next
