use Rattle.std.proofs.Common.{sym, ◌∙◌, ◌≡◌, length, rules}
use lib.Seq.{length-take-le}
use Rattle.std.proofs.lemmas.Result.{err_from_is_err_and}
use Rattle.definitions.specs.Questions.{short_enough}
use Rattle.reader.proofs.Loads.{too_long, no_layout, this, sum_short, wrong_patients, wrong_tables, wrong_sum, read_fine}
use Rattle.reader.proofs.read.Goals as goal

pub returns-then-not-within : goal.returns-then-not-within
unfolding short_enough
returns-then-not-within c =
    too_long (sym c.within.ensures ∙ c.if-not-within.true)

pub returns-in_err-laid : goal.returns-in_err-laid
unfolding short_enough
returns-in_err-laid c =
    let short = sym c.within.ensures ∙ c.if-not-within.false in
    let p = err_from_is_err_and c.from_residual.result c.from_residual.ensures.1 in
    rw (p.1, p.2) (no_layout short c.lay_out.ensures (sym c.ok_or.ensures.value ∙ c.in_err-laid.was))

pub returns-then-laid : goal.returns-then-laid
unfolding short_enough
returns-then-laid c =
    let short = sym c.within.ensures ∙ c.if-not-within.false in
    let found = sym c.ok_or.ensures.value ∙ c.in_ok-laid.was in
    wrong_patients short c.lay_out.ensures found c.if-laid.true

pub returns-then-laid-2 : goal.returns-then-laid-2
unfolding short_enough
returns-then-laid-2 c =
    let short = sym c.within.ensures ∙ c.if-not-within.false in
    let found = sym c.ok_or.ensures.value ∙ c.in_ok-laid.was in
    wrong_tables short c.lay_out.ensures found c.if-laid-2.true

pub slice_bounds-checksum_of-end : goal.slice_bounds-checksum_of-end
unfolding short_enough
slice_bounds-checksum_of-end c =
    let short = sym c.within.ensures ∙ c.if-not-within.false in
    let found = sym c.ok_or.ensures.value ∙ c.in_ok-laid.was in
    sym (length-take-le _ _ (this short c.lay_out.ensures found).within)

pub checksum_of-requires : goal.checksum_of-requires
unfolding short_enough
checksum_of-requires c =
    let short = sym c.within.ensures ∙ c.if-not-within.false in
    let found = sym c.ok_or.ensures.value ∙ c.in_ok-laid.was in
    sum_short short c.lay_out.ensures found

pub returns-then-checksum_of-laid : goal.returns-then-checksum_of-laid
unfolding short_enough
returns-then-checksum_of-laid c =
    let short = sym c.within.ensures ∙ c.if-not-within.false in
    let found = sym c.ok_or.ensures.value ∙ c.in_ok-laid.was in
    wrong_sum short c.lay_out.ensures found c.if-laid.false c.if-laid-2.false c.checksum_of.ensures c.if-checksum_of-laid.true

pub returns : goal.returns
unfolding short_enough
returns c =
    let short = sym c.within.ensures ∙ c.if-not-within.false in
    let found = sym c.ok_or.ensures.value ∙ c.in_ok-laid.was in
    let wide : length c.args.store.now ≡ 4096 = search rules in
    read_fine short c.lay_out.ensures found c.if-laid.false c.if-laid-2.false c.checksum_of.ensures wide c.if-checksum_of-laid.false
