use Rattle.std.proofs.Common.{sym, ap, not, ◌∙◌}
use Rattle.lists.specs.Tests.{answered_no, answered_yes}
use Rattle.questions.proofs.Asking.{no_eight, no_nine, no_parents, no_ten, all_yes_lem, eight_yes, total_fits, nine_asked, counted_some, counted_none}
use Rattle.std.proofs.lemmas.Result.{err_from_is_err_and}
use Rattle.std.specs.Option.{is_some}
use Rattle.held_region.specs.Refusals.{question_of}
use Rattle.questions.proofs.judge_entries.Goals as goal

pub returns-in_err-total : goal.returns-in_err-total
returns-in_err-total c =
    let (none, refusal) = counted_none _ (sym c.ok_or.ensures.value ∙ c.in_err-total.was) in
    let p = err_from_is_err_and c.from_residual.result c.from_residual.ensures.1 in
    rw (p.1, p.2) (ap question_of (sym refusal) ∙ no_eight _ _ (sym (c.entry_counts.ensures.asked _) ∙ ap is_some none))

pub entries_fit-requires : goal.entries_fit-requires
entries_fit-requires c = total_fits c.args.region c.args.store.now c.entry_counts.ensures (counted_some _ (sym c.ok_or.ensures.value ∙ c.in_ok-total.was))

pub returns-then-not-entries_fit : goal.returns-then-not-entries_fit
returns-then-not-entries_fit c =
    let counted = counted_some _ (sym c.ok_or.ensures.value ∙ c.in_ok-total.was) in
    no_nine _ _ (eight_yes _ _ c.entry_counts.ensures counted)
    (answered_no (nine_asked _ _ c.entry_counts.ensures counted c.entries_fit.ensures) (ap not c.if-not-entries_fit.true))

pub returns-then-not-members_related : goal.returns-then-not-members_related
returns-then-not-members_related c =
    let counted = counted_some _ (sym c.ok_or.ensures.value ∙ c.in_ok-total.was) in
    let nine = answered_yes (nine_asked _ _ c.entry_counts.ensures counted c.entries_fit.ensures) (ap not c.if-not-entries_fit.false) in
    no_ten _ _ (eight_yes _ _ c.entry_counts.ensures counted) nine c.if-parents.true (answered_no (c.members_related.ensures _) (ap not c.if-not-members_related.true))

pub returns : goal.returns
returns c =
    let counted = counted_some _ (sym c.ok_or.ensures.value ∙ c.in_ok-total.was) in
    let eight = eight_yes _ _ c.entry_counts.ensures counted in
    let nine = answered_yes (nine_asked _ _ c.entry_counts.ensures counted c.entries_fit.ensures) (ap not c.if-not-entries_fit.false) in
    elim c.else-parents.branch [
      | goal.else-parents-via-then-parents+else-not-members_related w ↦ all_yes_lem _ _ eight nine w.if-parents.true (answered_yes (w.members_related.ensures _) (ap not w.if-not-members_related.false))
      | goal.else-parents-via-else-parents w ↦ no_parents _ _ eight nine w.if-parents.false
    ]
