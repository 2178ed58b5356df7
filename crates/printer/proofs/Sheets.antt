-- The sheets of all clinics, one after another, of whatever file the held region holds.
use mathlib.Core.Path.{refl, sym, ◌∙◌}
use mathlib.Core.List.{append-nil}
use native.Mathlib.Omega.{arith}
use Prim.Native.Nat.{◌≤◌}
use Rattle.std.specs.Prelude.{◌+◌, ◌<◌, ◌∷◌}
use Rattle.definitions.specs.Basics.{ℕ, List, [], flatten}
use Rattle.held_region.specs.declared.Region as Code
use Rattle.held_region.specs.Meaning.{said}
use Rattle.text_writer.specs.Wrote.{Left, none_yet, room_for, then_left}
use Rattle.printer.specs.Steps.{clinic_count, sheets_from, Kept, AsksClinic, GivesClinic, AsksSheets, GivesSheets}
use Rattle.printer.proofs.Texts.{clinic_left, sheets_done}

-- The clinics below c are printed: those from c on are left, and the list still lies in the work area.
pub record Printed (h : Code.Region) (store : List ℕ) (n c at : ℕ) (out work now work_now : List ℕ) (next : ℕ) : Type 0 where
  pub kept : Kept h n work work_now
  pub left : Left (sheets_from (said h store) 0) at out (sheets_from (said h store) c ∷ []) now next

module _ (h : Code.Region) (store : List ℕ) {n at : ℕ} (out work : List ℕ) where
  pub none_printed : Printed h store n 0 at out work out work at
  unfolding flatten
  none_printed = record { kept = record { long = refl; list = refl }; left = none_yet _ (sym (append-nil (sheets_from (said h store) 0))) }

  module _ (c : ℕ) {now work_now : List ℕ} {next : ℕ} (so_far : Printed h store n c at out work now work_now next) where
    pub asks_clinic : AsksSheets h store n at out work → c < clinic_count → AsksClinic h store n c next now work_now
    asks_clinic asks l =
        let listed = asks.listed in
        record {
          listed = record {
            accepted = listed.accepted;
            few = listed.few;
            long = omega (arith, so_far.kept.long, listed.long);
            list = so_far.kept.list ∙ listed.list;
          };
          room = room_for (clinic_left (said h store) c so_far.left l) asks.room;
        }

    pub clinic_more : c < clinic_count → {after work_after : List ℕ} {end : ℕ} → GivesClinic h store n c next now work_now after work_after end
        → Printed h store n (c + 1) at out work after work_after end
    clinic_more l gives = record {
      kept = record { long = gives.kept.long ∙ so_far.kept.long; list = gives.kept.list ∙ so_far.kept.list };
      left = then_left (clinic_left (said h store) c so_far.left l) gives.wrote;
    }

    pub all_printed : clinic_count ≤ c → GivesSheets h store at out now next
    all_printed l = sheets_done (said h store) c so_far.left l
