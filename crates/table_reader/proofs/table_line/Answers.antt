use mathlib.Core.Path.{ap, ◌∙◌}
use Rattle.scanner.specs.Answers.{there, missing, passed}
use Rattle.scanner.specs.Tokens.{more_left, nothing_left}
use Rattle.table_reader.proofs.HeldTables.{cost_missing, cost_then, no_members_lem, no_space_lem, no_entries_lem, no_end_lem, more_behind, line_other, line_broken, line_table}
use Rattle.table_reader.proofs.table_line.Goals as goal

pub returns-in_err-start : goal.returns-in_err-start
returns-in_err-start c =
    rw c.from_residual.ensures (line_other (cost_missing _ c.form_start_at.ensures (ap passed c.in_err-start.was)))

pub returns-in_err-a : goal.returns-in_err-a
returns-in_err-a c =
    rw c.from_residual-in_err-a.ensures (line_other (cost_then _ c.form_start_at.ensures (ap passed c.in_ok-start.was) ∙ missing c.space_at.ensures (ap passed c.in_err-a.was)))

pub returns-in_err-members : goal.returns-in_err-members
returns-in_err-members c =
    let cost = cost_then _ c.form_start_at.ensures (ap passed c.in_ok-start.was) ∙ there c.space_at.ensures (ap passed c.in_ok-a.was) in
    rw c.from_residual-in_err-members.ensures (line_broken cost (no_members_lem _ cost (c.members_at.ensures.missing c.in_err-members.was)))

pub returns-in_err-b : goal.returns-in_err-b
returns-in_err-b c =
    let cost = cost_then _ c.form_start_at.ensures (ap passed c.in_ok-start.was) ∙ there c.space_at.ensures (ap passed c.in_ok-a.was) in
    let members = c.members_at.ensures.there _ c.in_ok-members.was in
    rw c.from_residual-in_err-b.ensures (line_broken cost (no_space_lem _ cost members.list.read (missing c.space_at-2.ensures (ap passed c.in_err-b.was))))

pub returns-in_err-entries : goal.returns-in_err-entries
returns-in_err-entries c =
    let cost = cost_then _ c.form_start_at.ensures (ap passed c.in_ok-start.was) ∙ there c.space_at.ensures (ap passed c.in_ok-a.was) in
    let members = c.members_at.ensures.there _ c.in_ok-members.was in
    let space = there c.space_at-2.ensures (ap passed c.in_ok-b.was) in
    rw c.from_residual-in_err-entries.ensures (line_broken cost (no_entries_lem _ cost members.list.read space (c.entries_at.ensures.missing c.in_err-entries.was)))

pub returns-in_err-end : goal.returns-in_err-end
returns-in_err-end c =
    let cost = cost_then _ c.form_start_at.ensures (ap passed c.in_ok-start.was) ∙ there c.space_at.ensures (ap passed c.in_ok-a.was) in
    let members = c.members_at.ensures.there _ c.in_ok-members.was in
    let space = there c.space_at-2.ensures (ap passed c.in_ok-b.was) in
    let list = c.entries_at.ensures.there _ c.in_ok-entries.was in
    rw c.from_residual-in_err-end.ensures (line_broken cost (no_end_lem _ cost members.list.read space list.list.read (missing c.form_end_at.ensures (ap passed c.in_err-end.was))))

pub returns-then-end-line : goal.returns-then-end-line
returns-then-end-line c =
    let cost = cost_then _ c.form_start_at.ensures (ap passed c.in_ok-start.was) ∙ there c.space_at.ensures (ap passed c.in_ok-a.was) in
    let members = c.members_at.ensures.there _ c.in_ok-members.was in
    let space = there c.space_at-2.ensures (ap passed c.in_ok-b.was) in
    let list = c.entries_at.ensures.there _ c.in_ok-entries.was in
    let close = there c.form_end_at.ensures (ap passed c.in_ok-end.was) in
    line_broken cost (more_behind _ cost members.list.read space list.list.read close (more_left _ _ c.if-end-line.true))

pub returns : goal.returns
returns c =
    let cost = cost_then _ c.form_start_at.ensures (ap passed c.in_ok-start.was) ∙ there c.space_at.ensures (ap passed c.in_ok-a.was) in
    let members = c.members_at.ensures.there _ c.in_ok-members.was in
    let space = there c.space_at-2.ensures (ap passed c.in_ok-b.was) in
    let list = c.entries_at.ensures.there _ c.in_ok-entries.was in
    let close = there c.form_end_at.ensures (ap passed c.in_ok-end.was) in
    line_table cost members space list close (nothing_left _ _ c.if-end-line.false)
