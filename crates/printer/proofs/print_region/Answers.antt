use Rattle.row_sums.specs.Sums.{work_part}
use Rattle.printer.proofs.Regions.{refusal_room, nothing_printed, list_printable, asks_sheets, text_printed}
use Rattle.printer.proofs.print_region.Goals as goal

pub print_refusal-requires : goal.print_refusal-requires
print_refusal-requires c =
    refusal_room _ _ c.args.out.now c.args.work.now c.requires c.list_region-n.ensures c.if-n-eq0.true

pub returns-then-n-eq0 : goal.returns-then-n-eq0
returns-then-n-eq0 c =
    nothing_printed _ _ c.args.out.now c.args.work.now c.requires c.list_region-n.ensures c.if-n-eq0.true c.print_refusal.ensures

pub print_list-at-requires : goal.print_list-at-requires
unfolding work_part
print_list-at-requires c =
    list_printable _ _ c.args.out.now c.args.work.now c.requires c.list_region-n.ensures c.if-n-eq0.false

pub print_sheets-requires : goal.print_sheets-requires
unfolding work_part
print_sheets-requires c =
    asks_sheets _ _ c.args.out.now c.args.work.now c.requires c.list_region-n.ensures c.if-n-eq0.false c.print_list-at.ensures

pub returns : goal.returns
unfolding work_part
returns c =
    text_printed _ _ c.args.out.now c.args.work.now c.requires c.list_region-n.ensures c.if-n-eq0.false c.print_list-at.ensures c.print_sheets.ensures
