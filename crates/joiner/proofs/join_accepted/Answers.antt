use native.Mathlib.Omega.{arith}
use mathlib.Core.Path.{sym, ap, subst, ◌∙◌}
use Rattle.definitions.specs.Spelling.{spell}
use Rattle.lists.specs.Tests.{answered_no, answered_yes}
use Rattle.theorems.specs.Accepted.{Accepted}
use Rattle.joining.specs.Accepted.{joined_accepted}
use Rattle.held_region.specs.Meaning.{said}
use Rattle.joined_region.specs.Joined.{accepted_countable, fitting}
use Rattle.writer.specs.Outcomes.{placing}
use Rattle.joiner.specs.Outcomes.{clinics_shared, too_many, joined_placed, file_placed}
use mathlib.Core.Bool.{not}
use Rattle.joiner.proofs.join_accepted.Goals as goal

pub clinics_apart-requires : goal.clinics_apart-requires
clinics_apart-requires c =
    let s = c in
    ((accepted_countable _ s.args.store.now s.requires.0).places, (accepted_countable _ s.args.other.now s.requires.1).places)

pub returns-then-not-clinics_apart : goal.returns-then-not-clinics_apart
returns-then-not-clinics_apart c =
    let s = c in
    clinics_shared (said s.args.first s.args.store.now) (said s.args.second s.args.other.now) s.args.output.now
    (answered_no (c.clinics_apart.ensures s.args.store.now s.args.other.now) (ap not c.if-not-clinics_apart.true))

pub join_within-requires : goal.join_within-requires
join_within-requires c =
    let s = c in
    (accepted_countable _ s.args.store.now s.requires.0, accepted_countable _ s.args.other.now s.requires.1)

pub returns-then-not-join_within : goal.returns-then-not-join_within
returns-then-not-join_within c =
    let asked = c in
    let s = asked in
    too_many (said s.args.first s.args.store.now) (said s.args.second s.args.other.now) s.args.output.now
    (answered_yes (asked.clinics_apart.ensures s.args.store.now s.args.other.now) (ap not asked.if-not-clinics_apart.false))
    (answered_no (c.join_within.ensures s.args.store.now s.args.other.now) (ap not c.if-not-join_within.true))

pub join_regions-region-requires : goal.join_regions-region-requires
join_regions-region-requires c =
    let s = c.args in
    fitting s.first s.second s.store.now s.other.now c.requires.0 c.requires.1
    (answered_yes (c.join_within.ensures s.store.now s.other.now) (ap not c.if-not-join_within.false))

pub place_file-requires : goal.place_file-requires
place_file-requires c =
    let made = c in
    let asked = made in
    let s = asked in
    let fits = answered_yes (asked.join_within.ensures s.args.store.now s.args.other.now) (ap not asked.if-not-join_within.false) in
    subst Accepted (sym made.join_regions-region.ensures) (joined_accepted (said s.args.first s.args.store.now) (said s.args.second s.args.other.now) s.requires.0 s.requires.1 fits)

pub returns : goal.returns
returns c =
    let s = c.args in
    let apart = answered_yes (c.clinics_apart.ensures s.store.now s.other.now) (ap not c.if-not-clinics_apart.false) in
    let fits = answered_yes (c.join_within.ensures s.store.now s.other.now) (ap not c.if-not-join_within.false) in
    joined_placed c.place_file.result {answer = c.ok_or.result} (grind arith)
    ∙ file_placed (said s.first s.store.now) (said s.second s.other.now) s.output.now apart fits
    c.place_file.result (c.place_file.ensures ∙ ap (λ r. placing (spell r) s.output.now) c.join_regions-region.ensures)
