-- The text was written whole, since the area has room for it.
use Rattle.std.proofs.Common.{sym}
use Rattle.std.proofs.Math.Seq.{length-take-le}
use Rattle.printer.specs.Printing.{whole_text, text_inside}
use Rattle.region_print.proofs.print_text.Goals as goal

pub slice_bounds-write_all-end : goal.slice_bounds-write_all-end
slice_bounds-write_all-end g c = text_inside _ _ c.requires c.print-n.ensures

pub slice_bounds-write_all-end-2 : goal.slice_bounds-write_all-end-2
slice_bounds-write_all-end-2 g c = sym (length-take-le _ _ (text_inside _ _ c.requires c.print-n.ensures))

pub returns : goal.returns
returns g c = (whole_text _ _ c.requires c.print-n.ensures).bytes
