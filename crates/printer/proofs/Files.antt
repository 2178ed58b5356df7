-- The text of a file: a refusal by questions 1 to 10, or the text of its region.
use mathlib.Core.Path.{◌≡◌, refl, sym, ap, ◌∙◌}
use native.Mathlib.Omega.{arith}
use Prim.Native.Nat.{◌≤◌}
use borrow.Author.Tests.{le-leb, lt-leb}
use Rattle.std.specs.Prelude.{Result, Ok, Err, ◌<◌, ◌∷◌}
use Rattle.definitions.specs.Basics.{ℕ, zero, suc, true, List, [], length, sets, text}
use Rattle.definitions.specs.Spelling.{decimal, line}
use Rattle.definitions.specs.Questions.{region_of, asked_by_list, check_of, plan_allowed}
use Rattle.definitions.specs.Output.{printed_answer, printed}
use Rattle.held_region.specs.declared.Region.{Region}
use Rattle.held_region.specs.declared.Refusal.{Refusal}
use Rattle.held_region.specs.Refusals.{number_of}
use Rattle.reader.specs.Loading.{LoadedFrom, checks}
use Rattle.theorems.specs.Refusals.{after_check}
use Rattle.theorems.specs.Refused.{refused_alike}
use Rattle.answers.specs.Answers.{refusal_number}
use Rattle.answers.specs.Numbers.{refusal_number_lem}
use Rattle.reader.specs.Fine.{accepted_fine, region_fine}
use Rattle.text_writer.specs.Wrote.{Room, Wrote}
use Rattle.row_printer.specs.Whole.{printed_size}
use Rattle.printer.specs.Printing.{PrintOutcome, print_outcome}
use Rattle.printer.specs.Steps.{region_text, AsksText, GivesText}

module _ (file out : List ℕ) where
  -- A short area is untouched; in any other the text is written.
  pub short_area : length out < 32_106 → record { count = 0; out = out } ≡ print_outcome file out
  unfolding print_outcome
  short_area l = simp (lt-leb _ _ l)

  module _ (long : 32_106 ≤ length out) where
    text_written : {after : List ℕ} {end : ℕ} → Wrote (printed file) 0 out after end → record { count = end; out = after } ≡ print_outcome file out
    unfolding print_outcome
    text_written {after} {end} wrote =
        let size : end ≡ length (printed file) = omega (arith, wrote.next) in
        let all : ◌≡◌ {A = PrintOutcome} (record { count = end; out = after }) (record { count = length (printed file); out = sets out 0 (printed file) }) =
        λ i. record { count = size i; out = wrote.bytes i } in
        rw (le-leb _ _ long) all

    room : Room (printed file) 0 out
    room = omega (arith, printed_size file, long)

    -- Questions 1 to 10.
    module _ {loaded : Result Region Refusal} {store : List ℕ} (from : LoadedFrom true file loaded store) {refusal : Refusal} (is : loaded ≡ Err refusal) (q : ℕ) (said : q ≡ refusal_number refusal) where
      number : q ≡ check_of file
      number = said ∙ sym (ap number_of is) ∙ checks from

      refused : q ≡ 0 → ⊥
      refused none = let n = refusal_number_lem refusal in omega (arith, n, said, none)

      refused_said : printed file ≡ line (text "refused" ∷ decimal q ∷ [])
      refused_said = go q number refused
        where
          go : (q : ℕ) → q ≡ check_of file → (q ≡ 0 → ⊥) → printed file ≡ line (text "refused" ∷ decimal q ∷ [])
          go zero e other = absurd (other refl)
          go (suc q) e other = (refused_alike file q (sym e)).print

      pub refused_room : Room (line (text "refused" ∷ decimal q ∷ [])) 0 out
      refused_room = omega (arith, ap length refused_said, room)

      pub refused_written : {after : List ℕ} {end : ℕ} → Wrote (line (text "refused" ∷ decimal q ∷ [])) 0 out after end
          → record { count = end; out = after } ≡ print_outcome file out
      refused_written wrote = text_written (let same = refused_said in rw same wrote)

    -- An accepted file.
    module _ {loaded : Result Region Refusal} {store : List ℕ} (from : LoadedFrom true file loaded store) {region : Region} (holds : loaded ≡ Ok region) where
      region_said_lem : printed file ≡ region_text (region_of file)
      unfolding printed asked_by_list region_text
      region_said_lem = ap (λ n. printed_answer n (region_of file)) (after_check file ((12, true) ∷ (13, plan_allowed (region_of file)) ∷ []) (accepted_fine file loaded from holds))

      pub asks_text : (work : List ℕ) → 1_152 ≤ length work → AsksText region store out work
      asks_text work enough = record {
        accepted = region_fine file loaded from holds;
        long = enough;
        room = omega (arith, ap length (region_said_lem ∙ ap region_text (sym (from.says holds))), room);
      }

      pub region_written : {after : List ℕ} {end : ℕ} → GivesText region store out after end → record { count = end; out = after } ≡ print_outcome file out
      region_written gives = text_written (let same = region_said_lem ∙ ap region_text (sym (from.says holds)) in rw same gives)
