use mathlib.Core.Path.{refl, sym, ap, ◌∙◌}
use lib.Seq.{length-take-le}
use Rattle.definitions.specs.Questions.{checksum}
use Rattle.text_writer.specs.Wrote.{none_yet, room_for, then_left, none_left, ends_inside, taken_back}
use Rattle.region_lines.specs.Spelled.{file_parts}
use Rattle.region_lines.specs.Writable.{writable, body_short}
use Rattle.writer.proofs.write_file.Goals as goal

pub write_body-end-requires : goal.write_body-end-requires
write_body-end-requires c =
    let s = c in
    let fits = writable s.args.region s.args.store.now s.requires.0 in
    (fits, room_for (none_yet {out = s.args.text.now} {at = 0} _ (file_parts s.args.region s.args.store.now _ refl fits.end)) s.requires.1)

pub slice_bounds-checksum_of-end : goal.slice_bounds-checksum_of-end
slice_bounds-checksum_of-end c =
    let b = c in
    let s = b in
    let fits = writable s.args.region s.args.store.now s.requires.0 in
    let room = room_for (none_yet {out = s.args.text.now} {at = 0} _ (file_parts s.args.region s.args.store.now _ refl fits.end)) s.requires.1 in
    ends_inside b.write_body-end.ensures room

pub slice_bounds-checksum_of-end-2 : goal.slice_bounds-checksum_of-end-2
slice_bounds-checksum_of-end-2 c =
    let b = c in
    let s = b in
    let fits = writable s.args.region s.args.store.now s.requires.0 in
    let room = room_for (none_yet {out = s.args.text.now} {at = 0} _ (file_parts s.args.region s.args.store.now _ refl fits.end)) s.requires.1 in
    sym (length-take-le _ _ (ends_inside b.write_body-end.ensures room))

pub checksum_of-sum-requires : goal.checksum_of-sum-requires
checksum_of-sum-requires c =
    let b = c in
    let s = b in
    let fits = writable s.args.region s.args.store.now s.requires.0 in
    let room = room_for (none_yet {out = s.args.text.now} {at = 0} _ (file_parts s.args.region s.args.store.now _ refl fits.end)) s.requires.1 in
    rw (taken_back b.write_body-end.ensures room) (body_short s.args.region s.args.store.now s.requires.0)

pub write_form-requires : goal.write_form-requires
write_form-requires c =
    let k = c in
    let b = k in
    let s = b in
    let fits = writable s.args.region s.args.store.now s.requires.0 in
    let room = room_for (none_yet {out = s.args.text.now} {at = 0} _ (file_parts s.args.region s.args.store.now _ refl fits.end)) s.requires.1 in
    let taken = taken_back b.write_body-end.ensures room in
    room_for (then_left (none_yet _ (file_parts s.args.region s.args.store.now _ (k.checksum_of-sum.ensures ∙ ap checksum taken) fits.end)) b.write_body-end.ensures) s.requires.1

pub returns : goal.returns
returns c =
    let f = c in
    let k = f in
    let b = k in
    let s = b in
    let fits = writable s.args.region s.args.store.now s.requires.0 in
    let room = room_for (none_yet {out = s.args.text.now} {at = 0} _ (file_parts s.args.region s.args.store.now _ refl fits.end)) s.requires.1 in
    let taken = taken_back b.write_body-end.ensures room in
    none_left (then_left (then_left (none_yet _ (file_parts s.args.region s.args.store.now _ (k.checksum_of-sum.ensures ∙ ap checksum taken) fits.end)) b.write_body-end.ensures) f.write_form.ensures)
