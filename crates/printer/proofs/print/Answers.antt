use Rattle.std.proofs.Common.{arith}
use Rattle.printer.proofs.Files.{short_area, refused_room, refused_written, asks_text, region_written}
use Rattle.printer.proofs.print.Goals as goal

pub returns-then-out-lt-LONGEST : goal.returns-then-out-lt-LONGEST
returns-then-out-lt-LONGEST c = short_area c.args.file.now c.args.out.now c.if-out-lt-LONGEST.true

pub print_refusal-requires : goal.print_refusal-requires
print_refusal-requires c =
    refused_room c.args.file.now c.args.out.now c.if-out-lt-LONGEST.false c.load.ensures c.in-Err.is _ (omega arith)

pub returns-in-Err : goal.returns-in-Err
returns-in-Err c =
    refused_written c.args.file.now c.args.out.now c.if-out-lt-LONGEST.false c.load.ensures c.in-Err.is _ (omega arith) c.print_refusal.ensures

pub print_region-requires : goal.print_region-requires
print_region-requires c =
    asks_text c.args.file.now c.args.out.now c.if-out-lt-LONGEST.false c.load.ensures c.in-Ok.is _ (omega arith)

pub returns-in-Ok : goal.returns-in-Ok
returns-in-Ok c =
    region_written c.args.file.now c.args.out.now c.if-out-lt-LONGEST.false c.load.ensures c.in-Ok.is c.print_region.ensures
