use mathlib.Core.Path.{sym, ap, ◌∙◌}
use mathlib.Core.Bool.{not}
use Rattle.std.proofs.lemmas.Result.{err_from_is_err_and}
use Rattle.definitions.specs.Lookup.{LineOutcome}
use Rattle.lists.specs.Tests.{answered_no, answered_yes}
use Rattle.held_region.specs.Refusals.{number_of}
use Rattle.reader.specs.Loading.{checks}
use Rattle.reader.specs.Fine.{accepted_fine}
use Rattle.reader.proofs.Loads.{asks_one}
use Rattle.line_finder.proofs.Answered.{file_refused, typed_refused, line_there}
use Rattle.line_finder.proofs.find_line.Goals as goal

pub returns-in_err-load : goal.returns-in_err-load
returns-in_err-load c =
    let p = err_from_is_err_and c.from_residual.result c.from_residual.ensures.1 in
    rw (p.1, p.2) (file_refused _ _ (sym (ap number_of c.in_err-load.was) ∙ checks c.load.ensures) (asks_one _))

pub returns-then-not-typed_right : goal.returns-then-not-typed_right
returns-then-not-typed_right c =
    let fine = accepted_fine c.args.file.now _ c.load.ensures c.in_ok-load.was in
    typed_refused _ _ fine (answered_no c.typed_right.ensures (ap not c.if-not-typed_right.true))

pub returns : goal.returns
returns c =
    let fine = accepted_fine c.args.file.now _ c.load.ensures c.in_ok-load.was in
    ap {B = LineOutcome} (λ part. record { number = 0; part = part }) c.first_line.ensures
    ∙ line_there _ _ fine (answered_yes c.typed_right.ensures (ap not c.if-not-typed_right.false))
