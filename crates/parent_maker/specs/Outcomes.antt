-- What parents gives back, by the answers to questions 1 to 9 and to 15.
use Rattle.std.specs.Prelude.{◌≡◌, ◌≤◌, Result, Ok, Err}
use Rattle.std.proofs.Math.Path.{sym, ap}
use Rattle.std.proofs.Common.{◌∙◌, le-leb, ◌<◌, ◌-◌, ◌∷◌}
use Rattle.std.proofs.lemmas.Bool.{lt-leb}
use Rattle.definitions.specs.Basics.{ℕ, false, List, [], length}
use Rattle.definitions.specs.Spelling.{spell}
use Rattle.definitions.specs.Questions.{first_no, entry_asks}
use Rattle.definitions.specs.Writer.{room_for_file, WriteOutcome}
use Rattle.definitions.specs.Parents.{parents_made, with_parents, parents_file, asked_to_make, asked_by_parents, parents_outcome}
use Rattle.definitions.specs.Boundary.{result_after, WriteCall, parents_call}
use Rattle.theorems.specs.Answers.{says, no_then}
use Rattle.theorems.specs.Accepted.{Accepted}
use Rattle.made_parents.specs.Accepted.{PassesNine, asked_nine, made_accepted}
use Rattle.held_region.specs.declared.Refusal.{Refusal}
use Rattle.held_region.specs.declared.Region.{Region}
use Rattle.held_region.specs.Meaning.{said}
use Rattle.held_region.specs.Refusals.{number_of}
use Rattle.held_region.specs.Sound.{Sound, has_places}
use Rattle.file_answers.specs.declared.WriteError.TheVariants.{Refused}
use Rattle.answers.specs.Answers.{refusal_number}
use Rattle.file_answers.specs.Answers.{written_outcome}
use Rattle.answers.specs.Numbers.{refusal_number_lem}
use Rattle.answers.specs.Rooms.{or_twelve}
use Rattle.byte_areas.specs.Results.{result_short}
use Rattle.reader.specs.Loading.{LoadedFrom, checks_nine}
use Rattle.writer.specs.Outcomes.{placing, then_placed, refused_with_lem}
use Rattle.writer.specs.Calls.{called_outcome, with_room, without_room, called}

-- ---- a file that passes questions 1 to 9, but for parents

module _ (file : List ℕ) {store : List ℕ} (loaded : Result Region Refusal) (from : LoadedFrom false file loaded store) {region : Region} (fine : loaded ≡ Ok region) where
  none_refused : first_no (asked_to_make file) ≡ 0
  none_refused = sym (checks_nine from) ∙ ap number_of fine

  -- What it says passes them too, ..
  pub passes_nine : PassesNine (said region store)
  passes_nine = rw (from.says fine) (asked_nine file ((says (asked_to_make file) tt).accepted.0 none_refused))

  -- .. so its tables can be read, ..
  pub nine_sound : Sound region
  nine_sound =
      let nine = passes_nine in
      record { store = store; places = has_places region store nine.counts_fit; patients = nine.patients_fit; members = nine.members_fit }

  -- .. with its parents made it is accepted, ..
  pub nine_accepted : Accepted (with_parents (said region store) (parents_made (said region store)))
  nine_accepted = made_accepted (said region store) passes_nine

  -- .. and 15 decides.
  pub nine_placed : (output : List ℕ) → placing (spell (with_parents (said region store) (parents_made (said region store)))) output ≡ parents_outcome file output
  unfolding parents_outcome parents_file asked_by_parents
  nine_placed output =
      ap (λ r. placing (spell (with_parents r (parents_made r))) output) (from.says fine)
      ∙ sym (then_placed (parents_file file) output (asked_to_make file) ((says (asked_to_make file) tt).accepted.0 none_refused))

-- A no to one of them.
pub parents_refused : (file output : List ℕ) (refusal : Refusal) → refusal_number refusal ≡ first_no (asked_to_make file) → written_outcome (Err (Refused refusal)) output ≡ parents_outcome file output
unfolding parents_outcome asked_by_parents
parents_refused file output refusal e =
    let no = no_then (asked_to_make file) ((15, room_for_file (parents_file file) output) ∷ []) (refusal_number refusal - 1) (sym e ∙ refusal_number_lem refusal) in
    refused_with_lem (entry_asks (asked_by_parents file output)) (parents_file file) output refusal (no ∙ sym (refusal_number_lem refusal))

-- ---- the call

module _ (file output result : List ℕ) where
  -- A result area that is too short is left as it is, and so is the output.
  pub call_short : length result < 8 → ◌≡◌ {A = WriteCall} (record { number = or_twelve (first_no (asked_to_make file)); output = output; result = result }) (parents_call file output result)
  unfolding parents_call asked_by_parents
  call_short l =
      called (asked_by_parents file output) (parents_file file) output result
      (without_room (asked_by_parents file output) (parents_file file) output tt ∙ ap (called_outcome (asked_by_parents file output) (parents_file file) output) (sym (lt-leb 8 (length result) l)))
      (result_short (0 ∷ []) result l)

  pub call_long_lem : {number count : ℕ} {after left : List ℕ} → 8 ≤ length result → ◌≡◌ {A = WriteOutcome} (record { number = number; count = count; output = after }) (parents_outcome file output)
      → left ≡ result_after (count ∷ []) result → ◌≡◌ {A = WriteCall} (record { number = number; output = after; result = left }) (parents_call file output result)
  unfolding parents_call parents_outcome
  call_long_lem l e f =
      called (asked_by_parents file output) (parents_file file) output result
      (e ∙ with_room (asked_by_parents file output) (parents_file file) output ∙ ap (called_outcome (asked_by_parents file output) (parents_file file) output) (sym (le-leb 8 (length result) l))) f
