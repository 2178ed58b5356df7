-- What read answers, by the answers to questions 1 to 10 and to 12.
use Rattle.std.specs.Prelude.{◌≡◌, refl, ◌≤◌}
use Rattle.std.proofs.Math.Path.{sym, ap, ap₂}
use Rattle.std.proofs.Common.{◌∙◌, true≢false, arith, leb-true, ◌*◌, ◌-◌, ◌&&◌, ◌∷◌}
use Rattle.definitions.specs.Basics.{ℕ, Bool, true, false, not, List, [], flat_map, length, leb, below}
use Rattle.definitions.specs.Syntax as Said
use Rattle.definitions.specs.Questions.{Asked, first_no, region_of, check_of}
use Rattle.definitions.specs.Boundary.{room_for_numbers, numbers_after, result_after, room_for_region, asked_by_read, ReadCall, read_call_of, read_call}
use Rattle.lists.specs.Tests.{both, answered_no, answered_yes}
use Rattle.theorems.specs.Refusals.{after_check, refused_before}
use Rattle.theorems.specs.Accepted.{Accepted, entries_few}
use Rattle.held_region.specs.declared.Region.{Region}
use Rattle.held_region.specs.declared.Refusal.{Refusal}
use Rattle.held_region.specs.Meaning.{start_in, said}
use Rattle.held_region.specs.Sound.{has_places, accepted_sound}
use Rattle.held_region.specs.Entries.{CountsSmall, counts_match_lem, counts_small, total_said}
use Rattle.answers.specs.Answers.{refusal_number}
use Rattle.answers.specs.Numbers.{refusal_number_lem}
use Rattle.region_areas.specs.Laid.{patient_part, table_part, entry_part, patients_laid, tables_laid, entries_laid}

-- The answer of an accepted file's region: only 12 is asked of it.
abbrev room_asked : Said.Region → List ℕ → List ℕ → List ℕ → List ℕ → Asked
room_asked r patients tables entries result = (12, room_for_numbers 4 result) ∷ (12, room_for_region r patients tables entries) ∷ []

unfoldable pub read_accepted : Said.Region → List ℕ → List ℕ → List ℕ → List ℕ → ReadCall
read_accepted r patients tables entries result = read_call_of (first_no (room_asked r patients tables entries result)) r patients tables entries result

-- 12 as one question of the lengths, with the count of entries handed in.
abbrev pub room_for : Region → ℕ → ℕ → ℕ → ℕ → ℕ → Bool
room_for h total patients tables entries result = leb 32 result && (leb (h.v * 32) patients && leb (h.t * 48) tables && leb (total * 8) entries)

-- What the result area gets on a refusal.
abbrev pub no_counts : List ℕ
no_counts = 0 ∷ 0 ∷ 0 ∷ 0 ∷ []

-- Two questions of one number, asked as one.
twelve : (a b : Bool) → (a && b) ≡ false → 12 ≡ first_no ((12, a) ∷ (12, b) ∷ [])
twelve true false e = refl
twelve false b e = refl
twelve true true e = absurd (true≢false e)

-- ---- an accepted region

module _ (h : Region) (store : List ℕ) (a : Accepted (said h store)) where
  pub counts_held : CountsSmall h
  counts_held = counts_small h (accepted_sound h store a) store (counts_match_lem (said h store) a.entry_counts_fit)

  pub total_few : start_in h h.t ≤ 4096
  total_few = omega (arith, entries_few (said h store) a, total_said h store)

  pub patients_few : h.v ≤ 32
  patients_few = (has_places h store a.counts_fit).patients

  pub tables_few : h.t ≤ 64
  tables_few = (has_places h store a.counts_fit).tables

  module _ (patients tables entries result : List ℕ) where
    abbrev room : Bool
    room = room_for h (start_in h h.t) (length patients) (length tables) (length entries) (length result)

    -- As the code asks for it, ..
    module _ {answer : Bool} {total : ℕ} (is : total ≡ start_in h h.t) (asked : answer ≡ room_for h total (length patients) (length tables) (length entries) (length result)) where
      same_answer : answer ≡ room
      same_answer = asked ∙ ap (λ n. room_for h n (length patients) (length tables) (length entries) (length result)) is

      pub room_no : not answer ≡ true → room ≡ false
      room_no = answered_no same_answer

      pub room_yes : not answer ≡ false → room ≡ true
      room_yes = answered_yes same_answer

      -- .. and what the loops then ask for.
      pub each_fits : not answer ≡ false
          → ((h.v ≤ 32) × (h.v * 32 ≤ length patients)) × ((h.t ≤ 64) × (h.t * 48 ≤ length tables)) × ((total ≤ 4096) × (total * 8 ≤ length entries))
      each_fits fits =
          let three = (both (leb 32 (length result)) (room_yes fits)).1 in
          let (two, third) = both (leb (h.v * 32) (length patients) && leb (h.t * 48) (length tables)) three in
          let (first, second) = both (leb (h.v * 32) (length patients)) two in
          let entries_fit_lem : start_in h h.t * 8 ≤ length entries = leb-true _ _ third in
          ((patients_few, leb-true _ _ first), (tables_few, leb-true _ _ second), (omega (arith, total_few), omega (arith, is)))

    -- Whether the three areas have room, as it is held and as it is said.
    same_room : (leb (h.v * 32) (length patients) && leb (h.t * 48) (length tables) && leb (start_in h h.t * 8) (length entries)) ≡ room_for_region (said h store) patients tables entries
    unfolding room_for_region said
    same_room = ap (λ n. leb (h.v * 32) (length patients) && leb (h.t * 48) (length tables) && leb (n * 8) (length entries)) (sym (total_said h store))

    -- An area is too short, ..
    pub no_room : {n : ℕ} {left : List ℕ} → room ≡ false → n ≡ 12 → left ≡ result_after no_counts result
        → record { number = n; patients = patients; tables = tables; entries = entries; result = left } ≡ read_accepted (said h store) patients tables entries result
    unfolding read_accepted read_call_of
    no_room short e zeros =
        let no_fit = ap (λ b. leb 32 (length result) && b) (sym same_room) ∙ short in
        ap₂ {C = ReadCall} (λ n l. record { number = n; patients = patients; tables = tables; entries = entries; result = l }) e zeros
        ∙ ap (λ n. read_call_of n (said h store) patients tables entries result) (twelve (leb 32 (length result)) (room_for_region (said h store) patients tables entries) no_fit)

    -- .. or all is laid in them.
    pub all_laid : {ps ts es left : List ℕ} {total : ℕ} → room ≡ true
        → ps ≡ numbers_after (flat_map (patient_part h) (below h.v)) patients → ts ≡ numbers_after (flat_map (table_part h) (below h.t)) tables
        → es ≡ numbers_after (flat_map (entry_part store) (below total)) entries → total ≡ start_in h h.t → left ≡ result_after (h.v ∷ h.t ∷ h.m ∷ total ∷ []) result
        → record { number = 0; patients = ps; tables = ts; entries = es; result = left } ≡ read_accepted (said h store) patients tables entries result
    unfolding read_accepted read_call_of said
    all_laid fits p t e is counts =
        let (enough, three) = both (leb 32 (length result)) fits in
        let entries_are = e ∙ ap (λ n. numbers_after (flat_map (entry_part store) (below n)) entries) is ∙ ap (λ ns. numbers_after ns entries) (entries_laid h store) in
        let counts_are = counts ∙ ap (λ n. result_after (h.v ∷ h.t ∷ h.m ∷ n ∷ []) result) (is ∙ sym (total_said h store)) in
        (λ i. record {
          number = 0;
          patients = (p ∙ ap (λ ns. numbers_after ns patients) (patients_laid h store)) i;
          tables = (t ∙ ap (λ ns. numbers_after ns tables) (tables_laid h store)) i;
          entries = entries_are i;
          result = counts_are i;
        })
        ∙ ap₂ (λ a b. read_call_of (first_no ((12, a) ∷ (12, b) ∷ [])) (said h store) patients tables entries result) (sym enough) (sym three ∙ same_room)

-- ---- a file

module _ (file patients tables entries result : List ℕ) where
  -- It is accepted, and this is its region, ..
  pub file_accepted : {r : Said.Region} {answer : ReadCall} → check_of file ≡ 0 → r ≡ region_of file → answer ≡ read_accepted r patients tables entries result
      → answer ≡ read_call file patients tables entries result
  unfolding read_accepted read_call asked_by_read
  file_accepted fine is answered =
      answered
      ∙ ap (λ r. read_call_of (first_no (room_asked r patients tables entries result)) r patients tables entries result) is
      ∙ ap (λ n. read_call_of n (region_of file) patients tables entries result) (sym (after_check file (room_asked (region_of file) patients tables entries result) fine))

  -- .. or it is refused.
  pub file_refused : {n : ℕ} {left : List ℕ} (refusal : Refusal) → n ≡ refusal_number refusal → refusal_number refusal ≡ check_of file → left ≡ result_after no_counts result
      → record { number = n; patients = patients; tables = tables; entries = entries; result = left } ≡ read_call file patients tables entries result
  unfolding read_call asked_by_read read_call_of
  file_refused refusal e is zeros =
      let q = refusal_number refusal - 1 in
      let refused = refused_before file (room_asked (region_of file) patients tables entries result) q (sym is ∙ refusal_number_lem refusal) in
      ap₂ {C = ReadCall} (λ n l. record { number = n; patients = patients; tables = tables; entries = entries; result = l }) (e ∙ refusal_number_lem refusal) zeros
      ∙ ap (λ n. read_call_of n (region_of file) patients tables entries result) (sym refused)
