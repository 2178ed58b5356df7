use Rattle.std.proofs.Common.{rules, tests}
use Rattle.std.proofs.lemmas.Iterator.{YieldsList-from_slice, YieldsList-from_zip}
use Rattle.std.proofs.lemmas.Iterator.Search.{all_from_yields_List}
use Rattle.scanner.proofs.Words.{as_asked, rest_from, bytes_few, bytes_answered}
use Rattle.scanner.proofs.bytes_at.Goals as goal

pub returns-then-rest-bytes : goal.returns-then-rest-bytes
returns-then-rest-bytes c = bytes_few _ _ _ c.min.ensures c.if-rest-bytes.true

pub returns : goal.returns
returns c =
    bytes_answered _ _ _ c.min.ensures c.if-rest-bytes.false
    (all_from_yields_List as_asked c.all-found.new.self _ _ c.all-found.ensures.ran (YieldsList-from_zip (YieldsList-from_slice (rest_from c.args.s.now c.min.result) cc) (YieldsList-from_slice c.args.bytes.now cc)) (λ x b q k. search (rules, tests)))
    c.then_some.ensures
