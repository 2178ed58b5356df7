-- Request #101: a written file is read as the region that was written, and a region that was read is written as its file.
-- (Theorems that rest on these stand in `proofs/Writer.antt`.)
use Rattle.std.specs.Prelude.{◌≡◌, ◌≤◌}
use Rattle.std.proofs.Math.Path.{refl, sym, ap}
use Rattle.std.proofs.Common.{◌∙◌, ◌+◌, ◌<◌, ◌&&◌, ◌∷◌, ◌++◌}
use native.Mathlib.Omega.{arith}
use Rattle.std.proofs.Math.ListN.{drop}
use Rattle.std.proofs.Math.Seq.{sets-eq}
use borrow.Author.Tests.{lt-ltb, ltb-true, leb-true, eq-eqb}
use Rattle.definitions.specs.Basics.{ℕ, suc, Bool, true, not, Option, none, some, none_or, List, [], length, take}
use Rattle.definitions.specs.Basics.{leb, every, is_empty, sets}
use Rattle.definitions.specs.Limits.{Field, patient_count, table_count, plans_wanted, clinic, bed_count, entry, limits, within}
use Rattle.definitions.specs.Syntax.{Patient, Table, Region}
use Rattle.definitions.specs.Layout.{layout}
use Rattle.definitions.specs.Spelling.{spellable, spell_body, well_formed}
use Rattle.definitions.specs.Questions.{Asked, first_no, checksum, counts_true, region_of, asked_of_region, check_of, entry_asks, call_asks}
use Rattle.definitions.specs.Outcomes.{unless_refused}
use Rattle.definitions.specs.Writer.{region_from, as_held, written_file, room_for_file, asked_by_write, Made, made_by, output_after, WriteOutcome, write_outcome_of, write_outcome}
use Rattle.definitions.specs.Boundary.{room_for_numbers, lent_region, asked_by_lent_write, WriteCall, write_call_of, write_call}
use Rattle.lists.specs.Tests.{both, join}
use Rattle.lists.specs.Members.{◌∈◌}
use Rattle.lists.specs.Every.{every_in, every_all, every_split}
use Rattle.theorems.specs.Answers.{all_yes, Says, says, no_no}
use Rattle.theorems.specs.Refused.{Refused}
use Rattle.theorems.specs.Accepted.{Accepted, asked_accepted, at_most, patient_right, counts_within_lem, patients_few, parent_known, entries_some, table_right}
use Rattle.theorems.specs.Lengths.{most_written}

-- Questions 5 to 10 of the region as it is held are answered yes.
abbrev pub Passes : Region → Type 0
Passes r = first_no (asked_of_region (as_held r)) ≡ 0

-- ---- the region as it is held

-- Its counts are true, whatever the region's are, and so is its sum.
pub held_counts : (r : Region) → counts_true (as_held r) ≡ true
unfolding counts_true as_held region_from
held_counts r = join (eq-eqb (length r.patients) _ refl) (eq-eqb (length r.tables) _ refl)

pub held_sum : (r : Region) → (as_held r).stated_sum ≡ checksum (spell_body (as_held r))
unfolding as_held region_from spell_body
held_sum r = refl

pub passes_accepted : (r : Region) → Passes r → Accepted (as_held r)
passes_accepted r well = asked_accepted (as_held r) (held_counts r) ((says (asked_of_region (as_held r)) tt).accepted.0 well)

-- ---- what passes questions 5 to 10 can be spelled

-- A number that is no higher than a field's highest, where that can be spelled.
spellable_most : (field : Field) → spellable (limits field).highest ≡ true → (n : ℕ) → n ≤ (limits field).highest → spellable n ≡ true
spellable_most field most n h = lt-ltb n _ (omega (arith, ltb-true (limits field).highest _ most))

pub none_or_lem : {test : ℕ → Bool} (o : Option ℕ) → ((n : ℕ) → o ≡ some n → test n ≡ true) → none_or test o ≡ true
none_or_lem none each = refl
none_or_lem (some n) each = each n refl

filled : {A : Type 0} (l : List A) → 0 < length l → not (is_empty l) ≡ true
filled [] h = absurd (omega arith)
filled (x ∷ l) h = refl

module _ (r : Region) (a : Accepted r) where
  -- A patient's number is below V.
  known_spellable : (s : ℕ) → s < length r.patients → spellable s ≡ true
  unfolding limits
  known_spellable s h = spellable_most patient_count refl s (omega (arith, patients_few r a))

  patient_spellable : (p : Patient) → p ∈ r.patients → (spellable p.clinic && spellable p.bed_count && none_or spellable p.parent && none_or spellable p.fixed_bed) ≡ true
  unfolding limits
  patient_spellable p k =
      let right = patient_right r a.patients_fit k in
      let beds = at_most bed_count p.bed_count right.beds_fit in
      join (join (join (spellable_most clinic refl p.clinic (at_most clinic p.clinic right.clinic_fits)) (spellable_most bed_count refl p.bed_count beds))
      (none_or_lem p.parent (λ q e. known_spellable q (parent_known r a k q e))))
      (none_or_lem p.fixed_bed (λ b e. spellable_most bed_count refl b (omega (arith, right.fixed_fits b e))))

  members_spellable : (t : Table) → t ∈ r.tables → (not (is_empty t.members) && every spellable t.members) ≡ true
  members_spellable t k =
      let right = table_right r a k in
      join (filled t.members right.some) (every_all spellable t.members (λ s i. known_spellable s (right.known i)))

  entries_spellable : (t : Table) → t ∈ r.tables → (not (is_empty t.entries) && every (none_or spellable) t.entries) ≡ true
  unfolding limits
  entries_spellable t k =
      join (filled t.entries (entries_some r a k))
      (every_all (none_or spellable) t.entries (λ o i. none_or_lem o (λ n e.
      spellable_most entry refl n (at_most entry n (ap (none_or (within entry)) (sym e) ∙ every_in _ t.entries (table_right r a k).within i)))))

  formed : spellable r.stated_sum ≡ true → well_formed r ≡ true
  unfolding well_formed limits
  formed stated =
      let (v, t, m) = counts_within_lem r a in
      let counts =
      join (spellable_most patient_count refl r.patient_count (at_most patient_count r.patient_count v))
      (join (spellable_most table_count refl r.table_count (at_most table_count r.table_count t))
      (join (spellable_most plans_wanted refl r.plans_wanted (at_most plans_wanted r.plans_wanted m)) (join stated refl)))
      in
      join (join (join counts (every_all _ r.patients patient_spellable)) (every_all _ r.tables members_spellable)) (every_all _ r.tables entries_spellable)

-- ---- a region that passes questions 5 to 10

pub sum_few : (r : Region) → (as_held r).stated_sum ≤ 65_520
sum_few r = omega (arith, held_sum r)

module _ (r : Region) (a : Accepted (as_held r)) where
  pub written_formed : well_formed (as_held r) ≡ true
  unfolding limits
  written_formed = formed (as_held r) a (lt-ltb (as_held r).stated_sum _ (omega (arith, sum_few r)))

-- Put together: what the file of a region that passes questions 5 to 10 is, and what reading it restores.
pub record ReadBack (r : Region) : Type 0 where
  pub short : length (written_file r) ≤ most_written
  pub accepted : check_of (written_file r) ≡ 0
  pub cuts : (n : ℕ) → n < length (written_file r) → Refused 2 (take n (written_file r))
  pub read : layout (written_file r) ≡ some (as_held r)
  pub patient_count : (region_of (written_file r)).patient_count ≡ length r.patients
  pub table_count : (region_of (written_file r)).table_count ≡ length r.tables
  pub plans_wanted : (region_of (written_file r)).plans_wanted ≡ r.plans_wanted
  pub patients : (region_of (written_file r)).patients ≡ r.patients
  pub tables : (region_of (written_file r)).tables ≡ r.tables

-- ---- what a writer's number says, and what it leaves

-- Number 0: the file stands at the beginning of the area, which is as it was beyond it, and its length is the count.
pub record Wrote (file before after : List ℕ) (count : ℕ) : Type 0 where
  pub counted : count ≡ length file
  pub fits : length file ≤ length before
  pub output : after ≡ file ++ drop (length file) before

-- A refusal: nothing is written, and the count is 0.
pub record Unwritten (before after : List ℕ) (count : ℕ) : Type 0 where
  pub counted : count ≡ 0
  pub output : after ≡ before

-- What is given back with a number, by every writer.
abbrev pub outcome_with : List ℕ → List ℕ → ℕ → WriteOutcome
outcome_with file output number = record { number = number; count = length (unless_refused number file); output = sets output 0 (unless_refused number file) }

pub made_with : (asked : Asked) (file output : List ℕ) {number : ℕ} → first_no asked ≡ number → write_outcome_of (made_by asked file) output ≡ outcome_with file output number
unfolding write_outcome_of
made_with asked file output e = ap (outcome_with file output) e

-- Writers ask 15 last.
module _ (early : Asked) (file output : List ℕ) where
  abbrev made : Made
  made = made_by (early ++ (15, room_for_file file output) ∷ []) file

  pub made_wrote : all_yes (early ++ (15, room_for_file file output) ∷ []) ≡ true → Wrote file output (output_after made output) (length made.bytes)
  unfolding room_for_file
  made_wrote all =
      let e = no_no (early ++ (15, room_for_file file output) ∷ []) all in
      let room = (both (leb (length file) (length output)) (every_split _ early ((15, room_for_file file output) ∷ []) all).1).0 in
      let bytes = ap (λ n. unless_refused n file) e in
      let few = leb-true (length file) (length output) room in
      let start : 0 + length file ≡ length file = omega arith in
      record { counted = ap length bytes; fits = few; output = ap (sets output 0) bytes ∙ sets-eq file output 0 (omega arith) ∙ ap (λ k. file ++ drop k output) start }

pub made_refused : (asked : Asked) (file output : List ℕ) (q : ℕ) → first_no asked ≡ suc q
    → Unwritten output (output_after (made_by asked file) output) (length (made_by asked file).bytes)
made_refused asked file output q e =
    let bytes = ap (λ n. unless_refused n file) e in
    record { counted = ap length bytes; output = ap (sets output 0) bytes }

module _ (r : Region) (output : List ℕ) where
  pub write_says : Says (entry_asks (asked_by_write r output)) (write_outcome r output).number
  unfolding write_outcome write_outcome_of asked_by_write
  write_says = says (entry_asks (asked_by_write r output)) tt

-- ---- the call from C

module _ (patients tables entries : List ℕ) (m : ℕ) (output result : List ℕ) where
  abbrev pub call : WriteCall
  call = write_call patients tables entries m output result

  abbrev pub asked : Asked
  asked = call_asks (asked_by_lent_write patients tables entries m output) (room_for_numbers 1 result)

  abbrev pub file : List ℕ
  file = written_file (lent_region patients tables entries m)

  pub write_call_says : Says asked call.number
  unfolding write_call write_call_of asked_by_lent_write asked_by_write
  write_call_says = says asked tt
