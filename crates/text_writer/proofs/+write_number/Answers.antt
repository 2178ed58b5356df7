use Rattle.std.proofs.Common.{arith, ◌+◌, ◌%◌, ◌∷◌, []}
use Rattle.definitions.specs.Spelling.{decimal}
use Rattle.text_writer.specs.Wrote.{Left, none_yet, room_for, then_left, none_left}
use Rattle.text_writer.proofs.Turns.{one_digit, more_digits}
use Rattle.text_writer.proofs.+write_number.Goals as goal

pub write_number-last-requires : goal.write_number-last-requires
write_number-last-requires t c =
    (omega arith, room_for (none_yet {out = c.args.out.now} {at = c.args.at} _ (more_digits c.args.n (omega arith))) c.requires)

pub write_byte-requires : goal.write_byte-requires
write_byte-requires t c =
    let n = c.args.n in
    let left : Left (decimal n) c.args.at c.args.out.now (((48 + n % 10) ∷ []) ∷ []) c.if-one_digit.out c.if-one_digit.last = elim c.if-one_digit.branch [
      | goal.then-one_digit w ↦ rw (w.out-is, w.last-is) (none_yet _ (one_digit n (omega arith)))
      | goal.else-one_digit w ↦ rw (w.out-is, w.last-is) (then_left (none_yet _ (more_digits n (omega arith))) w.write_number-last.ensures)
    ] in
    room_for left c.requires

pub returns : goal.returns
returns t c =
    let n = c.args.n in
    let left : Left (decimal n) c.args.at c.args.out.now (((48 + n % 10) ∷ []) ∷ []) c.if-one_digit.out c.if-one_digit.last = elim c.if-one_digit.branch [
      | goal.then-one_digit w ↦ rw (w.out-is, w.last-is) (none_yet _ (one_digit n (omega arith)))
      | goal.else-one_digit w ↦ rw (w.out-is, w.last-is) (then_left (none_yet _ (more_digits n (omega arith))) w.write_number-last.ensures)
    ] in
    none_left (then_left left c.write_byte.ensures)
