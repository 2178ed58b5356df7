use mathlib.Core.Path.{sym, ap, ◌∙◌}
use lib.Seq.{length-take-le}
use Rattle.line_reader.specs.Answers.{region_read, end_read}
use Rattle.table_reader.proofs.HeldTables.{found, not_found}
use Rattle.layout.proofs.Layouts.{layout_no_head, layout_no_end, layout_more, layout_there}
use Rattle.layout.proofs.lay_out.Goals as goal

pub slice_bounds-region_line-end : goal.slice_bounds-region_line-end
slice_bounds-region_line-end c = sym (length-take-le _ _ c.line_end-head_end.ensures.within)

pub returns-in_err-v : goal.returns-in_err-v
returns-in_err-v c = rw c.from_residual.ensures (not_found (layout_no_head c.line_end-head_end.ensures (sym c.region_line.ensures ∙ ap region_read c.in_err-v.was)))

pub returns-in_err-sum : goal.returns-in_err-sum
returns-in_err-sum c =
    let said = sym c.region_line.ensures ∙ ap region_read c.in_ok-v.was in
    rw c.from_residual-in_err-sum.ensures (not_found (layout_no_end c.line_end-head_end.ensures said c.read_patients-patients.ensures c.read_tables-tables.ensures c.line_end-last.ensures (sym c.end_line.ensures ∙ ap end_read c.in_err-sum.was)))

pub returns-then-last-file : goal.returns-then-last-file
returns-then-last-file c =
    let said = sym c.region_line.ensures ∙ ap region_read c.in_ok-v.was in
    let stated = sym c.end_line.ensures ∙ ap end_read c.in_ok-sum.was in
    not_found (layout_more c.line_end-head_end.ensures said c.read_patients-patients.ensures c.read_tables-tables.ensures c.line_end-last.ensures stated c.if-last-file.true)

pub returns : goal.returns
returns c =
    let said = sym c.region_line.ensures ∙ ap region_read c.in_ok-v.was in
    let stated = sym c.end_line.ensures ∙ ap end_read c.in_ok-sum.was in
    found (layout_there c.line_end-head_end.ensures said c.read_patients-patients.ensures c.read_tables-tables.ensures c.line_end-last.ensures stated c.if-last-file.false)
