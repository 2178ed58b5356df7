use Rattle.std.proofs.Common.{ap, ◌++◌}
use Rattle.definitions.specs.Basics.{text}
use Rattle.scanner.specs.Answers.{passed, read_as}
use Rattle.scanner.proofs.Words.{then_read, then_missing}
use Rattle.line_finder.proofs.opening_end.Goals as goal

pub returns-in_err-members : goal.returns-in_err-members
returns-in_err-members c = rw c.from_residual.ensures (then_missing (text "(cost ") (c.args.typed.now ++ text " (") (read_as (ap passed c.in_err-members.was) c.bytes_at.ensures))

pub returns-in_err-end : goal.returns-in_err-end
returns-in_err-end c =
    rw c.from_residual-in_err-end.ensures
    (then_read (text "(cost ") (c.args.typed.now ++ text " (") (read_as (ap passed c.in_ok-members.was) c.bytes_at.ensures)
    (then_missing c.args.typed.now (text " (") (read_as (ap passed c.in_err-end.was) c.bytes_at-2.ensures)))

pub returns : goal.returns
returns c =
    then_read (text "(cost ") (c.args.typed.now ++ text " (") (read_as (ap passed c.in_ok-members.was) c.bytes_at.ensures)
    (then_read c.args.typed.now (text " (") (read_as (ap passed c.in_ok-end.was) c.bytes_at-2.ensures) c.bytes_at-3.ensures)
