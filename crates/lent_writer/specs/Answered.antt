-- What the writer's call answers, beside its result area: whether that is long enough is handed in.
use Rattle.std.specs.Prelude.{◌≡◌}
use Rattle.std.proofs.Math.Path.{refl, sym, ap}
use Rattle.std.proofs.Common.{◌∙◌, ◌∷◌, ◌++◌}
use Rattle.definitions.specs.Basics.{ℕ, zero, suc, Bool, true, false, List, []}
use Rattle.definitions.specs.Syntax as Said
use Rattle.definitions.specs.Questions.{Asked, first_no, asked_of_region, Asks, call_asks}
use Rattle.definitions.specs.Writer.{region_from, as_held, written_file, room_for_file, asked_by_write, WriteOutcome, write_outcome}
use Rattle.definitions.specs.Boundary.{room_for_numbers, result_after, lent_region, lent_whole, asked_by_lent_write, WriteCall, write_call}
use Rattle.theorems.specs.Answers.{no_then}
use Rattle.theorems.specs.Writer.{made_with}
use Rattle.held_region.specs.Refusals.{asked, last_asked}
use Rattle.held_region.specs.StandsFor.{StandsFor}
use Rattle.answers.specs.Rooms.{or_twelve}
use Rattle.writer.specs.Calls.{nothing_written, called_outcome, with_room, without_room, called}

-- A region that stands for another is written as the other would be.
module _ (held region : Said.Region) (output : List ℕ) (stands : StandsFor true held region) (as_held_lem : as_held held ≡ held) (as_said : as_held region ≡ region) where
  same_asked : first_no (asked true held) ≡ first_no (asked_of_region region)
  unfolding asked last_asked
  same_asked = stands.asks

  stands_outcome : write_outcome held output ≡ write_outcome region output
  unfolding write_outcome asked_by_write asked last_asked
  stands_outcome = go (first_no (asked_of_region region)) refl
    where
      go : (n : ℕ) → first_no (asked_of_region region) ≡ n → write_outcome held output ≡ write_outcome region output
      go zero e = ap (λ r. write_outcome r output) (stands.says e)
      go (suc q) e =
          made_with (asked_of_region (as_held held) ++ (15, room_for_file (written_file held) output) ∷ []) (written_file held) output
          (no_then (asked_of_region (as_held held)) ((15, room_for_file (written_file held) output) ∷ []) q (ap (λ r. first_no (asked_of_region r)) as_held_lem ∙ same_asked ∙ e))
          ∙ sym (made_with (asked_of_region (as_held region) ++ (15, room_for_file (written_file region) output) ∷ []) (written_file region) output
          (no_then (asked_of_region (as_held region)) ((15, room_for_file (written_file region) output) ∷ []) q (ap (λ r. first_no (asked_of_region r)) as_said ∙ e)))

module _ (patients tables entries : List ℕ) (m : ℕ) (output : List ℕ) where
  abbrev region : Said.Region
  region = lent_region patients tables entries m

  abbrev lent_asks : Asks
  lent_asks = asked_by_lent_write patients tables entries m output

  abbrev pub lent_outcome : Bool → WriteOutcome
  lent_outcome room = called_outcome lent_asks (written_file region) output room

  -- A lent region is as it is held.
  lent_held : as_held region ≡ region
  unfolding as_held lent_region region_from
  lent_held = refl

  -- Question 2 is answered no.
  pub not_whole : (room : Bool) → lent_whole patients tables entries ≡ false → nothing_written 2 output ≡ lent_outcome room
  unfolding called_outcome asked_by_lent_write
  not_whole room no_two =
      sym (made_with (call_asks lent_asks room) (written_file region) output (ap (λ b. first_no ((2, b) ∷ early ++ (12, room) ∷ later)) no_two))
    where
      early : Asked
      early = (asked_by_write region output).first

      later : Asked
      later = (asked_by_write region output).later

  -- It is answered yes, and what is held stands for the region.
  module _ (whole : lent_whole patients tables entries ≡ true) (held : Said.Region) (stands : StandsFor true held region) (as_held_lem : as_held held ≡ held) where
    abbrev early : Asked
    early = asked_of_region (as_held region)

    abbrev later : Asked
    later = (15, room_for_file (written_file region) output) ∷ []

    -- With room for the result, the writer answers.
    pub answered : write_outcome held output ≡ lent_outcome true
    unfolding write_outcome asked_by_lent_write asked_by_write
    answered =
        stands_outcome held region output stands as_held_lem lent_held
        ∙ made_with (early ++ later) (written_file region) output refl
        ∙ sym (made_with ((2, lent_whole patients tables entries) ∷ early ++ later) (written_file region) output (ap (λ b. first_no ((2, b) ∷ early ++ later)) whole))
        ∙ with_room lent_asks (written_file region) output

    -- Without it, nothing is written.
    pub unanswered : nothing_written (or_twelve (first_no (asked true held))) output ≡ lent_outcome false
    unfolding asked_by_lent_write asked_by_write
    unanswered =
        ap (λ n. nothing_written (or_twelve n) output)
        (same_asked held region output stands as_held_lem lent_held ∙ sym (ap (λ r. first_no (asked_of_region r)) lent_held) ∙ sym (ap (λ b. first_no ((2, b) ∷ early)) whole))
        ∙ without_room lent_asks (written_file region) output tt

  -- With the result area, it is the call.
  pub call_answered : {number count : ℕ} {after left : List ℕ} (result : List ℕ)
      → ◌≡◌ {A = WriteOutcome} (record { number = number; count = count; output = after }) (lent_outcome (room_for_numbers 1 result)) → left ≡ result_after (count ∷ []) result
      → ◌≡◌ {A = WriteCall} (record { number = number; output = after; result = left }) (write_call patients tables entries m output result)
  unfolding write_call
  call_answered = called lent_asks (written_file region) output
