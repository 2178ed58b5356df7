-- What write gives back, by the answers to questions 5 to 10 and to 15.
use Rattle.std.specs.Prelude.{◌≡◌, ◌≤◌, Option, Some, None, Err}
use Rattle.std.proofs.Math.Path.{refl, sym}
use Rattle.std.proofs.Common.{ap, ap₂, ◌∙◌, arith, le-leb, ◌<◌, ◌∷◌, ◌++◌}
use Rattle.std.proofs.lemmas.Bool.{lt-leb}
use Rattle.definitions.specs.Basics.{ℕ, true, List, [], length, take, sets}
use Rattle.definitions.specs.Spelling.{spell}
use Rattle.definitions.specs.Questions.{Asked, first_no, asked_of_region}
use Rattle.definitions.specs.Outcomes.{unless_refused}
use Rattle.definitions.specs.Writer.{room_for_file, asked_by_write, made_by, WriteOutcome, write_outcome_of, write_outcome}
use Rattle.theorems.specs.Answers.{all_yes, yes_then, no_then}
use Rattle.theorems.specs.Accepted.{Accepted, accepted_asked}
use Rattle.theorems.specs.Writer.{passes_accepted, made_with}
use Rattle.held_region.specs.declared.Refusal.{Refusal}
use Rattle.held_region.specs.declared.Region.{Region}
use Rattle.held_region.specs.Meaning.{said}
use Rattle.held_region.specs.Refusals.{asked, last_asked}
use Rattle.file_answers.specs.declared.WriteError.TheVariants.{Refused}
use Rattle.answers.specs.Answers.{refusal_number}
use Rattle.file_answers.specs.Answers.{written_outcome}
use Rattle.answers.specs.Numbers.{refusal_number_lem}
use Rattle.text_writer.specs.Wrote.{Room, Wrote, taken_back}
use Rattle.held_region.specs.AsHeld.{said_held, file_said}

-- ---- a file placed in the output area, whole or not at all

-- The number, the byte count and the output area afterwards.
abbrev pub placed_number : Option ℕ → ℕ
placed_number None = 15
placed_number (Some n) = 0

abbrev pub placed_count : Option ℕ → ℕ
placed_count None = 0
placed_count (Some n) = n

abbrev pub placed_outcome : Option ℕ → List ℕ → WriteOutcome
placed_outcome placed output = record { number = placed_number placed; count = placed_count placed; output = output }

-- They are those of a writer that asks 15 alone.
unfoldable pub placing : List ℕ → List ℕ → WriteOutcome
placing file output = write_outcome_of (made_by ((15, room_for_file file output) ∷ []) file) output

module _ (file output : List ℕ) where
  -- After questions that are all answered yes, 15 decides.
  pub then_placed : (early : Asked) → all_yes early ≡ true → write_outcome_of (made_by (early ++ (15, room_for_file file output) ∷ []) file) output ≡ placing file output
  unfolding placing
  then_placed early all =
      let last : Asked = (15, room_for_file file output) ∷ [] in
      made_with (early ++ last) file output (yes_then early last all) ∙ sym (made_with last file output refl)

  -- What is placed, by its case.
  pub placed_case : {placed : Option ℕ} (case : Option ℕ) {after : List ℕ} → placed ≡ case → placed_outcome placed after ≡ placing file output → placed_outcome case after ≡ placing file output
  placed_case case {after} is e = ap (λ p. placed_outcome p after) (sym is) ∙ e

  placed_short : length output < length file → placed_outcome None output ≡ placing file output
  unfolding placing room_for_file
  placed_short l = sym (made_with ((15, room_for_file file output) ∷ []) file output (ap (λ b. first_no ((15, b) ∷ [])) (lt-leb _ _ l)))

  placed_bytes : length file ≤ length output → placed_outcome (Some (length file)) (sets output 0 file) ≡ placing file output
  unfolding placing room_for_file
  placed_bytes l = sym (made_with ((15, room_for_file file output) ∷ []) file output (ap (λ b. first_no ((15, b) ∷ [])) (le-leb _ _ l)))

  -- The file was made in an area of its own, and is copied from there.
  module _ {area text : List ℕ} {n : ℕ} (made : Wrote file 0 area text n) (room : Room file 0 area) where
    pub made_short : length output < n → placed_outcome None output ≡ placing file output
    made_short l = placed_short (omega (arith, made.next))

    pub made_copied : n ≤ length output → {after : List ℕ} {end : ℕ} → Wrote (take n text) 0 output after end
        → placed_outcome (Some n) after ≡ placing file output
    made_copied l {after} copied =
        let count : n ≡ length file = omega (arith, made.next) in
        ap₂ (λ k bytes. placed_outcome (Some k) bytes) count (copied.bytes ∙ ap (sets output 0) (taken_back made room)) ∙ placed_bytes (omega arith)

-- ---- a refusal, whatever was asked

pub refused_with_lem : (asked : Asked) (file output : List ℕ) (refusal : Refusal) → first_no asked ≡ refusal_number refusal → written_outcome (Err (Refused refusal)) output ≡ write_outcome_of (made_by asked file) output
refused_with_lem asked file output refusal e =
    ap (λ n. record { number = refusal_number refusal; count = length (unless_refused n file); output = sets output 0 (unless_refused n file) }) (sym (refusal_number_lem refusal))
    ∙ sym (made_with asked file output e)

-- ---- write

module _ (h : Region) (store output : List ℕ) where
  abbrev file : List ℕ
  file = spell (said h store)

  -- The questions that are asked: those of the held region, and 15.
  abbrev all_asked : Asked
  all_asked = asked_of_region (said h store) ++ (15, room_for_file file output) ∷ []

  asked_outcome : write_outcome_of (made_by all_asked file) output ≡ write_outcome (said h store) output
  unfolding write_outcome write_outcome_of asked_by_write
  asked_outcome = sym (ap₂ (λ r f. write_outcome_of (made_by (asked_of_region r ++ (15, room_for_file f output) ∷ []) f) output) (said_held h store) (file_said h store))

  -- They are those that the judge asks.
  judged : first_no (asked true (said h store)) ≡ first_no (asked_of_region (said h store))
  unfolding asked last_asked
  judged = refl

  -- A no to one of them; a yes to all.
  pub write_refused : (refusal : Refusal) → refusal_number refusal ≡ first_no (asked true (said h store)) → written_outcome (Err (Refused refusal)) output ≡ write_outcome (said h store) output
  write_refused refusal e =
      let no = no_then (asked_of_region (said h store)) ((15, room_for_file file output) ∷ []) _ (sym judged ∙ sym e ∙ refusal_number_lem refusal) in
      refused_with_lem all_asked file output refusal (no ∙ sym (refusal_number_lem refusal)) ∙ asked_outcome

  pub write_accepted : 0 ≡ first_no (asked true (said h store)) → Accepted (said h store)
  write_accepted e = rw (said_held h store) at (passes_accepted (said h store) (rw (said_held h store) (sym judged ∙ sym e)))

  -- Then the file is placed.
  pub write_placed : Accepted (said h store) → placing file output ≡ write_outcome (said h store) output
  write_placed a = sym (then_placed file output (asked_of_region (said h store)) (accepted_asked (said h store) a)) ∙ asked_outcome
