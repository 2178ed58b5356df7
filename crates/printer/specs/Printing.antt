-- The printed text of a file in a lent area.
use Rattle.std.specs.Prelude.{◌≡◌, ◌≤◌}
use Rattle.std.proofs.Math.Path.{ap}
use Rattle.std.proofs.Common.{◌∙◌, arith, le-leb}
use Rattle.std.proofs.Math.Seq.{length-sets}
use Rattle.definitions.specs.Basics.{ℕ, cond, List, length, leb, sets}
use Rattle.definitions.specs.Output.{printed}
use Rattle.text_writer.specs.Wrote.{Wrote}
use Rattle.row_printer.specs.Whole.{printed_size}

-- What print gives back: the byte count of the text, and the lent area.
pub record PrintOutcome : Type 0 where
  pub count : ℕ
  pub out : List ℕ

-- The text stands from place 0 on, and all else in the area is as it was. An area shorter than 32,106 bytes is untouched.
-- (No text is longer: `printed_size` in row_printer/specs/Whole.)
unfoldable pub print_outcome : List ℕ → List ℕ → PrintOutcome
print_outcome file out =
    cond (leb 32_106 (length out)) (record { count = length (printed file); out = sets out 0 (printed file) }) (record { count = 0; out = out })

-- So in an area that is long enough the whole text was written, and lies within it.
module _ (file out : List ℕ) {n : ℕ} {after : List ℕ} (long : 32_106 ≤ length out) (e : record { count = n; out = after } ≡ print_outcome file out) where
  pub whole_text : Wrote (printed file) 0 out after n
  unfolding print_outcome
  whole_text =
      let all = e ∙ ap (λ b. cond b (record { count = length (printed file); out = sets out 0 (printed file) }) (record { count = 0; out = out })) (le-leb 32_106 (length out) long) in
      record { bytes = ap (λ (o : PrintOutcome). o.out) all; next = omega (arith, ap (λ (o : PrintOutcome). o.count) all) }

  pub text_inside : n ≤ length after
  text_inside =
      let same = ap length whole_text.bytes ∙ length-sets out 0 (printed file) in
      omega (arith, whole_text.next, same, printed_size file, long)
