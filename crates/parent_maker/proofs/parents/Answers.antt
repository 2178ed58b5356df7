use mathlib.Core.Path.{sym, ap, subst, ◌∙◌}
use Rattle.std.proofs.lemmas.Result.{err_from_is_err_and}
use Rattle.definitions.specs.Spelling.{spell}
use Rattle.theorems.specs.Accepted.{Accepted}
use Rattle.held_region.specs.Refusals.{number_of}
use Rattle.reader.specs.Loading.{checks_nine}
use Rattle.writer.specs.Outcomes.{placing}
use Rattle.parent_maker.specs.Outcomes.{nine_sound, nine_accepted, nine_placed, parents_refused}
use Rattle.parent_maker.proofs.parents.Goals as goal

pub make_parents-made-requires : goal.make_parents-made-requires
make_parents-made-requires c = nine_sound c.args.file.now c.load.result c.load.ensures c.in_ok-region.was

pub write_accepted-requires : goal.write_accepted-requires
write_accepted-requires c =
    subst Accepted (sym (c.make_parents-made.ensures _)) (nine_accepted c.args.file.now c.load.result c.load.ensures c.in_ok-region.was)

pub returns-in_err-region : goal.returns-in_err-region
returns-in_err-region c =
    let error = err_from_is_err_and c.from_residual.result c.from_residual.ensures.1 in
    rw (error.1, error.2)
    (parents_refused c.args.file.now c.args.output.now c.in_err-region.field-0.0 (ap number_of (sym c.in_err-region.was) ∙ checks_nine c.load.ensures))

pub returns : goal.returns
returns c =
    c.write_accepted.ensures ∙ ap (λ r. placing (spell r) c.args.output.now) (c.make_parents-made.ensures _)
    ∙ nine_placed c.args.file.now c.load.result c.load.ensures c.in_ok-region.was c.args.output.now
