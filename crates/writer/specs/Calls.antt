-- The call from C of an entry that writes a file and gives its byte count in the result area.
use Rattle.std.specs.Prelude.{◌≡◌}
use Rattle.std.proofs.Math.Path.{refl, sym, ap}
use Rattle.std.proofs.Common.{◌∙◌, ◌∷◌}
use Rattle.definitions.specs.Basics.{ℕ, zero, suc, Bool, true, false, List, []}
use Rattle.definitions.specs.Questions.{first_no, Asks, entry_asks, call_asks}
use Rattle.definitions.specs.Writer.{made_by, WriteOutcome, write_outcome_of}
use Rattle.definitions.specs.Boundary.{room_for_numbers, result_after, WriteCall, write_call_of}
use Rattle.theorems.specs.Answers.{Numbered}
use Rattle.theorems.specs.Writer.{outcome_with, made_with}
use Rattle.answers.specs.Rooms as rooms
use Rattle.answers.specs.Rooms.{or_twelve}

abbrev pub nothing_written : ℕ → List ℕ → WriteOutcome
nothing_written number output = record { number = number; count = 0; output = output }

nothing_written_lem : (file output : List ℕ) (n : ℕ) → outcome_with file output (or_twelve n) ≡ nothing_written (or_twelve n) output
nothing_written_lem file output zero = refl
nothing_written_lem file output (suc q) = refl

-- Values that are given back, and what they are.
pub given_values : {given number counted count : ℕ} (output : List ℕ) → given ≡ number → counted ≡ count
    → ◌≡◌ {A = WriteOutcome} (record { number = given; count = counted; output = output }) (record { number = number; count = count; output = output })
given_values output e f = λ i. record { number = e i; count = f i; output = output }

module _ (asks : Asks) (file output : List ℕ) where
  -- What it gives back beside the result area; whether that is long enough is handed in.
  unfoldable pub called_outcome : Bool → WriteOutcome
  called_outcome room = write_outcome_of (made_by (call_asks asks room) file) output

  -- With room for the result, the entry answers.
  pub with_room : write_outcome_of (made_by (entry_asks asks) file) output ≡ called_outcome true
  unfolding called_outcome
  with_room = made_with (entry_asks asks) file output refl ∙ sym (made_with (call_asks asks true) file output (rooms.with_room asks))

  -- Without it, nothing is written.
  pub without_room : Numbered asks.first → nothing_written (or_twelve (first_no asks.first)) output ≡ called_outcome false
  unfolding called_outcome
  without_room numbered = sym (made_with (call_asks asks false) file output (rooms.without_room asks numbered) ∙ nothing_written_lem file output (first_no asks.first))

  -- With the result area, it is the call.
  pub called : {number count : ℕ} {after left : List ℕ} (result : List ℕ)
      → ◌≡◌ {A = WriteOutcome} (record { number = number; count = count; output = after }) (called_outcome (room_for_numbers 1 result)) → left ≡ result_after (count ∷ []) result
      → ◌≡◌ {A = WriteCall} (record { number = number; output = after; result = left }) (write_call_of (made_by (call_asks asks (room_for_numbers 1 result)) file) [] output result)
  unfolding called_outcome write_outcome_of write_call_of
  called result e f = λ i. record { number = (e i).number; output = (e i).output; result = (f ∙ ap (λ (o : WriteOutcome). result_after (o.count ∷ []) result) e) i }
