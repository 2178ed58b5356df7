-- Request #101: a written file is read as the region that was written, and a region that was read is written as its file.
use Rattle.std.specs.Prelude.{◌≡◌, ◌≤◌}
use Rattle.std.proofs.Math.Path.{refl, sym, ap}
use Rattle.std.proofs.Common.{ap₂, ◌∙◌, ◌∷◌, ◌++◌}
use Rattle.std.proofs.Math.Option.{some-injective}
use native.Mathlib.Omega.{arith}
use Rattle.std.proofs.Math.ListN.{drop}
use borrow.Author.Tests.{le-leb, eqb-true, eq-eqb}
use Rattle.definitions.specs.Basics.{ℕ, suc, Bool, true, some, List, [], length}
use Rattle.definitions.specs.Basics.{is_some}
use Rattle.definitions.specs.Limits.{limits, within}
use Rattle.definitions.specs.Syntax.{Region}
use Rattle.definitions.specs.Layout.{layout}
use Rattle.definitions.specs.Spelling.{spell_body, spell}
use Rattle.definitions.specs.Questions.{Asked, checksum, short_enough, laid_out, counts_true, sum_true, region_of, asked_of_region, asked_by_check, check_of, entry_asks}
use Rattle.definitions.specs.Writer.{region_from, as_held, written_file, room_for_file, asked_by_write, write_outcome_of, write_outcome}
use Rattle.definitions.specs.Boundary.{room_for_numbers, result_after, lent_region, lent_whole, asked_by_lent_write, WriteCall, write_call_of, write_call}
use Rattle.lists.specs.Tests.{join}
use Rattle.lists.specs.Every.{every_append}
use Rattle.theorems.specs.Answers.{all_yes, no_no}
use Rattle.theorems.specs.Refusals.{ResultZeroed}
use Rattle.theorems.proofs.Refusals.{result_zeroed}
use Rattle.theorems.proofs.Cuts.{cut_refused}
use Rattle.theorems.specs.Accepted.{Accepted, counts_true_lem, accepted_asked, accepted, region_said_lem}
use Rattle.theorems.proofs.Spelling.{layout_spelling, laid_out_spelt, body_spelt}
use Rattle.theorems.specs.Lengths.{most_written}
use Rattle.theorems.proofs.Lengths.{spelling_most}
use Rattle.theorems.specs.Writer
use Rattle.theorems.specs.Writer.{Passes, held_counts, held_sum, passes_accepted, sum_few, written_formed, ReadBack, Wrote, Unwritten, made_wrote, made_refused, write_says, write_call_says}

-- ---- the region as it is held

-- A region with true counts and its true sum is as it is held.
pub as_held_lem : (r : Region) → counts_true r ≡ true → r.stated_sum ≡ checksum (spell_body r) → as_held r ≡ r
unfolding as_held region_from spell_body
as_held_lem r counted summed =
    let (v, t) = counts_true_lem r counted in
    ap₂ (λ p q. from p q (checksum (spell_body (from p q 0)))) v t
    ∙ ap (from r.patient_count r.table_count) (sym summed)
  where
    from : ℕ → ℕ → ℕ → Region
    from v t n = record { patient_count = v; table_count = t; plans_wanted = r.plans_wanted; patients = r.patients; tables = r.tables; stated_sum = n }

-- ---- a region that passes questions 5 to 10

module _ (r : Region) (a : Accepted (as_held r)) where
  -- Its file is at most so long, ..
  pub written_short : length (written_file r) ≤ most_written
  unfolding written_file
  written_short = spelling_most (as_held r) a (sum_few r)

  -- .. reading it restores the same counts, patients, tables and entries, ..
  pub written_read : layout (written_file r) ≡ some (as_held r)
  unfolding written_file
  written_read = (layout_spelling (spell (as_held r)) (as_held r)).1 (written_formed r a, refl)

  fits_file : short_enough (written_file r) ≡ true
  unfolding short_enough within limits
  fits_file = join (le-leb 0 (length (written_file r)) (omega arith)) (le-leb (length (written_file r)) 65_535 (omega (arith, written_short)))

  laid : laid_out (written_file r) ≡ true
  unfolding laid_out
  laid = ap is_some written_read

  pub written_region : region_of (written_file r) ≡ as_held r
  written_region = some-injective _ _ (sym (region_said_lem (written_file r) laid) ∙ written_read)

  summed : sum_true (written_file r) (as_held r) ≡ true
  unfolding sum_true
  summed = eq-eqb _ _ (held_sum r ∙ ap checksum (sym (body_spelt (written_file r) (as_held r) written_read)))

  -- .. and it is accepted.
  pub written_accepted : check_of (written_file r) ≡ 0
  unfolding check_of asked_by_check
  written_accepted = no_no (asked_by_check (written_file r)) (join fits_file (join laid (rw written_region (join (held_counts r) (join summed (accepted_asked (as_held r) a))))))

pub read_back_lem : (r : Region) → Passes r → ReadBack r
unfolding as_held region_from
read_back_lem r passes =
    let a = passes_accepted r passes in
    let same = written_region r a in
    record {
      short = written_short r a;
      accepted = written_accepted r a;
      cuts = λ n h. cut_refused (written_file r) n (fits_file r a) (laid r a) h;
      read = written_read r a;
      patient_count = ap (λ (x : Region). x.patient_count) same;
      table_count = ap (λ (x : Region). x.table_count) same;
      plans_wanted = ap (λ (x : Region). x.plans_wanted) same;
      patients = ap (λ (x : Region). x.patients) same;
      tables = ap (λ (x : Region). x.tables) same;
    }

-- ---- a region that was read from an accepted file

module _ (file : List ℕ) (fine : check_of file ≡ 0) where
  -- It is as it is held, ..
  pub read_held : as_held (region_of file) ≡ region_of file
  unfolding sum_true
  read_held =
      let all = accepted file fine in
      as_held_lem (region_of file) all.region.counted
      (eqb-true _ _ all.summed ∙ ap checksum (body_spelt file (region_of file) (region_said_lem file all.laid)))

  -- .. and writing it restores its bytes.
  pub read_written : written_file (region_of file) ≡ file
  unfolding written_file
  read_written = ap spell read_held ∙ sym (laid_out_spelt file (accepted file fine).laid).1

-- ---- what a writer's number says, and what it leaves

module _ (r : Region) (output : List ℕ) where
  pub write_wrote : (write_outcome r output).number ≡ 0 → Wrote (written_file r) output (write_outcome r output).output (write_outcome r output).count
  unfolding write_outcome write_outcome_of asked_by_write
  write_wrote e = made_wrote (asked_of_region (as_held r)) (written_file r) output ((write_says r output).accepted.0 e)

  pub write_refused : (q : ℕ) → (write_outcome r output).number ≡ suc q → Unwritten output (write_outcome r output).output (write_outcome r output).count
  unfolding write_outcome write_outcome_of
  write_refused q e = made_refused (entry_asks (asked_by_write r output)) (written_file r) output q e

-- Writing what was read of an accepted file, into an area that is long enough, gives the file.
pub read_then_write : (file output : List ℕ) → check_of file ≡ 0 → length file ≤ length output
    → write_outcome (region_of file) output ≡ record { number = 0; count = length file; output = file ++ drop (length file) output }
unfolding write_outcome write_outcome_of asked_by_write room_for_file
read_then_write file output fine few =
    let wrote = write_wrote (region_of file) output zero_number in
    let same = read_written file fine in
    λ i. record { number = zero_number i; count = (wrote.counted ∙ ap length same) i; output = (wrote.output ∙ ap (λ f. f ++ drop (length f) output) same) i }
  where
    room : all_yes ((15, room_for_file (written_file (region_of file)) output) ∷ []) ≡ true
    room = rw (read_written file fine, le-leb (length file) (length output) few) refl

    early : all_yes (asked_of_region (as_held (region_of file))) ≡ true
    early = rw (read_held file fine) (accepted_asked (region_of file) (accepted file fine).region)

    all : all_yes (entry_asks (asked_by_write (region_of file) output)) ≡ true
    all = every_append (λ (a : ℕ × Bool). a.1) (asked_of_region (as_held (region_of file))) ((15, room_for_file (written_file (region_of file)) output) ∷ []) early room

    zero_number : (write_outcome (region_of file) output).number ≡ 0
    zero_number = (write_says (region_of file) output).accepted.1 all

-- ---- the call from C

module _ (patients tables entries : List ℕ) (m : ℕ) (output result : List ℕ) where
  abbrev call : WriteCall
  call = Writer.call patients tables entries m output result

  abbrev asked : Asked
  asked = Writer.asked patients tables entries m output result

  abbrev file : List ℕ
  file = Writer.file patients tables entries m output result

  -- Number 0: the file is written, and its length is the result.
  pub write_call_wrote : call.number ≡ 0 → (Wrote file output call.output (length file)) × (call.result ≡ result_after (length file ∷ []) result)
  unfolding write_call write_call_of asked_by_lent_write asked_by_write
  write_call_wrote e =
      let before = (2, lent_whole patients tables entries) ∷ asked_of_region (as_held (lent_region patients tables entries m)) ++ (12, room_for_numbers 1 result) ∷ [] in
      let wrote = made_wrote before file output ((write_call_says patients tables entries m output result).accepted.0 e) in
      (record { counted = refl; fits = wrote.fits; output = wrote.output }, ap (λ n. result_after (n ∷ []) result) wrote.counted)

  pub write_call_refused : (q : ℕ) → call.number ≡ suc q → (call.output ≡ output) × ResultZeroed 1 result call.result
  unfolding write_call write_call_of
  write_call_refused q e =
      let left = made_refused asked file output q e in
      (left.output, rw left.counted (result_zeroed 1 result))
