use borrow.Author.Tests.{lt-leb, le-leb}
use Rattle.std.specs.Prelude.{◌*◌}
use Rattle.lent_reader.proofs.has_room.Goals as goal

pub returns-then-res-lt-FOUR : goal.returns-then-res-lt-FOUR
returns-then-res-lt-FOUR c = simp (lt-leb 32 c.args.res c.if-res-lt-FOUR.true)

pub returns-then-patients-region : goal.returns-then-patients-region
returns-then-patients-region c =
    let first = c in
    let a = first.args in
    simp (le-leb 32 a.res first.if-res-lt-FOUR.false, lt-leb (a.region.v * 32) a.patients c.if-patients-region.true)

pub returns-then-tables-region : goal.returns-then-tables-region
returns-then-tables-region c =
    let second = c in
    let first = second in
    let a = first.args in
    simp (le-leb 32 a.res first.if-res-lt-FOUR.false, le-leb (a.region.v * 32) a.patients second.if-patients-region.false, lt-leb (a.region.t * 48) a.tables c.if-tables-region.true)

pub returns : goal.returns
returns c =
    let second = c in
    let first = second in
    let a = first.args in
    simp (le-leb 32 a.res first.if-res-lt-FOUR.false, le-leb (a.region.v * 32) a.patients second.if-patients-region.false, le-leb (a.region.t * 48) a.tables c.if-tables-region.false)
