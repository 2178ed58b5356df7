use Rattle.std.proofs.lemmas.Result.{err_from_is_err_and}
use Rattle.reader.proofs.Loads.{load_refused, load_no, load_fine}
use Rattle.reader.proofs.load.Goals as goal

pub returns-in_err-region : goal.returns-in_err-region
returns-in_err-region c =
    let p = err_from_is_err_and c.from_residual.result c.from_residual.ensures.1 in
    rw (p.1, p.2) (load_refused _ c.read.ensures c.in_err-region.was)

pub returns-in_err-judge : goal.returns-in_err-judge
returns-in_err-judge c =
    let p = err_from_is_err_and c.from_residual-in_err-judge.result c.from_residual-in_err-judge.ensures.1 in
    rw (p.1, p.2) (load_no _ c.read.ensures c.in_ok-region.was _ c.judge.ensures c.in_err-judge.was)

pub returns : goal.returns
returns c = load_fine _ c.read.ensures c.in_ok-region.was _ c.judge.ensures c.in_ok-judge.was
