use mathlib.Core.Bool.{and-eq-true_iff}
use Rattle.definitions.specs.Basics.{[]}
use Rattle.held_region.specs.Sound.{has_places}
use Rattle.lists.specs.Tests.{answered_no, answered_yes}
use Rattle.questions.proofs.Asking.{no_five, no_six, no_seven, first_yes}
use mathlib.Core.Path.{ap}
use mathlib.Core.Bool.{not}
use Rattle.questions.proofs.judge.Goals as goal

pub returns-then-not-counts_fit : goal.returns-then-not-counts_fit
returns-then-not-counts_fit c = no_five _ _ (answered_no (c.counts_fit.ensures _) (ap not c.if-not-counts_fit.true))

pub patients_right-requires : goal.patients_right-requires
patients_right-requires c = has_places _ [] (answered_yes (c.counts_fit.ensures []) (ap not c.if-not-counts_fit.false))

pub returns-then-not-patients_right : goal.returns-then-not-patients_right
returns-then-not-patients_right c =
    no_six _ _ (answered_yes (c.counts_fit.ensures _) (ap not c.if-not-counts_fit.false)) (answered_no (c.patients_right.ensures _) (ap not c.if-not-patients_right.true))

pub members_right-requires : goal.members_right-requires
members_right-requires c = has_places _ [] (answered_yes (c.counts_fit.ensures []) (ap not c.if-not-counts_fit.false))

pub returns-then-not-members_right : goal.returns-then-not-members_right
returns-then-not-members_right c =
    no_seven _ _ (answered_yes (c.counts_fit.ensures _) (ap not c.if-not-counts_fit.false)) (answered_yes (c.patients_right.ensures _) (ap not c.if-not-patients_right.false))
    (answered_no (c.members_right.ensures _) (ap not c.if-not-members_right.true))

pub judge_entries-requires : goal.judge_entries-requires
judge_entries-requires c =
    let six = (and-eq-true_iff _ _).0 (answered_yes (c.patients_right.ensures []) (ap not c.if-not-patients_right.false)) in
    let five = has_places _ [] (answered_yes (c.counts_fit.ensures []) (ap not c.if-not-counts_fit.false)) in (
      record { store = []; places = five; patients = six.0; members = answered_yes (c.members_right.ensures []) (ap not c.if-not-members_right.false) },
      λ asked. record { store = []; places = five; smaller = rw asked at six.1 },
    )

pub returns : goal.returns
returns c =
    first_yes _ _ (answered_yes (c.counts_fit.ensures _) (ap not c.if-not-counts_fit.false)) (answered_yes (c.patients_right.ensures _) (ap not c.if-not-patients_right.false))
    (answered_yes (c.members_right.ensures _) (ap not c.if-not-members_right.false)) c.judge_entries.ensures
