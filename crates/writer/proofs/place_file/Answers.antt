use native.Mathlib.Omega.{arith}
use mathlib.Core.Path.{sym}
use lib.Seq.{length-take-le}
use Rattle.text_writer.specs.Wrote.{ends_inside}
use Rattle.region_lines.specs.Writable.{file_room}
use Rattle.writer.specs.Outcomes.{made_short, made_copied}
use Rattle.writer.proofs.place_file.Goals as goal

pub write_file-n-requires : goal.write_file-n-requires
write_file-n-requires c =
    let s = c in
    (s.requires, file_room s.args.region s.args.store.now s.requires)

pub returns-then-output-n : goal.returns-then-output-n
returns-then-output-n c =
    let w = c in
    let s = w in
    let room = file_room s.args.region s.args.store.now s.requires in
    made_short _ s.args.output.now w.write_file-n.ensures room c.if-output-n.true

pub slice_bounds-text-end : goal.slice_bounds-text-end
slice_bounds-text-end c =
    let w = c in
    let s = w in
    let room = file_room s.args.region s.args.store.now s.requires in
    ends_inside w.write_file-n.ensures room

pub slice_bounds-write_text-end : goal.slice_bounds-write_text-end
slice_bounds-write_text-end c =
    let w = c in
    let s = w in
    let room = file_room s.args.region s.args.store.now s.requires in
    sym (length-take-le _ _ (ends_inside w.write_file-n.ensures room))

pub write_text-requires : goal.write_text-requires
write_text-requires c =
    let e = c in
    let w = e in
    let s = w in
    let room = file_room s.args.region s.args.store.now s.requires in
    omega (arith, length-take-le w.write_file-n.result w.write_file-n.new.text (ends_inside w.write_file-n.ensures room), e.if-output-n.false)

pub returns : goal.returns
returns c =
    let t = c in
    let e = t in
    let w = e in
    let s = w in
    let room = file_room s.args.region s.args.store.now s.requires in
    made_copied _ s.args.output.now w.write_file-n.ensures room e.if-output-n.false t.write_text.ensures
