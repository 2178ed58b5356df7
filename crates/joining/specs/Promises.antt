-- Request #106 as promised: what join's number says, what it leaves, and what the joined file is. Two files, f and g, and an output area.
use Rattle.std.specs.Prelude.{◌≡◌, refl, ◌↔◌, ◌≤◌}
use Rattle.std.proofs.Common.{sym, ◌∙◌, subst, append_assoc, arith, ◌&&◌, ◌∷◌, ◌++◌}
use Rattle.std.proofs.Math.Path.{ap, ap₂}
use Rattle.std.proofs.Math.Dec.{eqb-suc-zero}
use Rattle.definitions.specs.Basics.{ℕ, zero, suc, min, true, cond, List, [], length, eqb}
use Rattle.definitions.specs.Syntax.{Region}
use Rattle.definitions.specs.Plans.{list_of}
use Rattle.definitions.specs.Sheets.{sheet_of}
use Rattle.definitions.specs.Questions.{clinic_present, plan_allowed, region_of, Asked, first_no, asked_by_check, check_of, entry_asks, call_asks}
use Rattle.definitions.specs.Isolation.{YieldsList, SameBeginning}
use Rattle.definitions.specs.Spelling.{spell}
use Rattle.definitions.specs.Writer.{as_held, written_file}
use Rattle.definitions.specs.Joining.{joined_region, joined_file, clinics_apart, join_within, asked_by_join, WhichFile, neither_file, first_file, second_file, refused_file, join_outcome, first_pairs}
use Rattle.definitions.specs.Boundary.{room_for_numbers, result_after, file_number, WriteCall, write_call_of, join_call}
use Rattle.lists.specs.Tests.{both, join}
use Rattle.lists.specs.Members.{◌∈◌}
use Rattle.lists.specs.Every.{every_split}
use Rattle.theorems.specs.Answers.{numbers, all_yes, Numbered, Says, says}
use Rattle.theorems.specs.Refusals.{after_check, refused_before}
use Rattle.theorems.specs.Accepted.{Accepted, accepted}
use Rattle.theorems.specs.Yields.{yields, asked_after}
use Rattle.theorems.proofs.Yields.{sheet_some}
use Rattle.theorems.specs.Lengths.{most_written}
use Rattle.theorems.specs.Writer.{Wrote, Unwritten, made_wrote, made_refused}
use Rattle.theorems.proofs.Writer.{written_short, written_region, written_accepted}
use Rattle.joining.specs.Joined.{joined_held}
use Rattle.joining.specs.Accepted.{joined_accepted}
use Rattle.joining.specs.Lists.{joined_list_lem, joined_none}
use Rattle.joining.specs.Sheets.{Begins, begins_alike, first_sheet_lem, second_sheet_lem, not_in_first, not_in_second}

-- ---- which file a number is about

-- Of the first file where check refuses it, of the second where check refuses only that, of neither where both are accepted: then it is one of the later numbers.
pub record Which (f g : List ℕ) (which : WhichFile) (number : ℕ) (later : List ℕ) : Type 0 where
  pub first : (which ≡ first_file) ↔ (check_of f ≡ 0 → ⊥)
  pub second : (which ≡ second_file) ↔ ((check_of f ≡ 0) × (check_of g ≡ 0 → ⊥))
  pub neither : (which ≡ neither_file) ↔ ((check_of f ≡ 0) × (check_of g ≡ 0))
  pub first_number : which ≡ first_file → number ≡ check_of f
  pub second_number : which ≡ second_file → number ≡ check_of g
  pub neither_number : which ≡ neither_file → number ∈ later

-- What it says, of the numbers m and n that check gives of the first and the second.
abbrev About : (m n : ℕ) (which : WhichFile) (number : ℕ) (later : List ℕ) → Type 0
About m n which number later =
    ((which ≡ first_file) ↔ (m ≡ 0 → ⊥)) × ((which ≡ second_file) ↔ ((m ≡ 0) × (n ≡ 0 → ⊥))) × ((which ≡ neither_file) ↔ ((m ≡ 0) × (n ≡ 0)))
    × (which ≡ first_file → number ≡ m) × (which ≡ second_file → number ≡ n) × (which ≡ neither_file → number ∈ later)

-- They do whatever is asked after the questions of both files.
asked_about : (f g : List ℕ) (later : Asked) → Numbered later
    → About (check_of f) (check_of g) (refused_file f g) (first_no ((asked_by_check f ++ asked_by_check g) ++ later)) (0 ∷ numbers later)
unfolding refused_file
asked_about f g later numbered = rw (append_assoc (asked_by_check f) (asked_by_check g) later) (go (check_of f) (check_of g) refl refl)
  where
    go : (m n : ℕ) → check_of f ≡ m → check_of g ≡ n
        → About m n (cond (eqb m 0) (cond (eqb n 0) neither_file second_file) first_file) (first_no (asked_by_check f ++ (asked_by_check g ++ later))) (0 ∷ numbers later)
    go (suc q) n e d = rw (eqb-suc-zero q) (
      (λ w. omega arith, λ h. refl),
      (λ w. omega (arith, ap file_number w), λ h. absurd (omega (arith, h.0))),
      (λ w. omega (arith, ap file_number w), λ h. absurd (omega (arith, h.0))),
      λ w. refused_before f (asked_by_check g ++ later) q e,
      λ w. absurd (omega (arith, ap file_number w)),
      λ w. absurd (omega (arith, ap file_number w)),
    )
    go zero (suc q) e d = rw (eqb-suc-zero q) (
      (λ w. omega (arith, ap file_number w), λ h. absurd (h refl)),
      (λ w. (refl, omega arith), λ h. refl),
      (λ w. omega (arith, ap file_number w), λ h. absurd (omega (arith, h.1))),
      λ w. absurd (omega (arith, ap file_number w)),
      λ w. after_check f (asked_by_check g ++ later) e ∙ refused_before g later q d,
      λ w. absurd (omega (arith, ap file_number w)),
    )
    go zero zero e d = (
      (λ w. omega (arith, ap file_number w), λ h. absurd (h refl)),
      (λ w. omega (arith, ap file_number w), λ h. absurd (h.1 refl)),
      (λ w. (refl, refl), λ h. refl),
      λ w. absurd (omega (arith, ap file_number w)),
      λ w. absurd (omega (arith, ap file_number w)),
      λ w. rw (after_check f (asked_by_check g ++ later) e, after_check g later d) (says later numbered).own,
    )

-- So it is whatever is asked after them.
asked_which : (f g : List ℕ) (later : Asked) → Numbered later → Which f g (refused_file f g) (first_no ((asked_by_check f ++ asked_by_check g) ++ later)) (0 ∷ numbers later)
asked_which f g later numbered =
    let (first, second, neither, first_number, second_number, neither_number) = asked_about f g later numbered in
    record { first = first; second = second; neither = neither; first_number = first_number; second_number = second_number; neither_number = neither_number }

-- ---- the joined file

pub record Joined (f g : List ℕ) : Type 0 where
  -- The second's patients, tables and parents after the first's, with m the smaller of the two; accepted, and at most so long.
  pub says : region_of (joined_file f g) ≡ joined_region (region_of f) (region_of g)
  pub checked : check_of (joined_file f g) ≡ 0
  pub short : length (joined_file f g) ≤ most_written
  -- Its list is exactly the first m pairs of a row from each list; if either has no allowed plan, neither has the joined file.
  pub rows : list_of (region_of (joined_file f g)) ≡ first_pairs (min (region_of f).plans_wanted (region_of g).plans_wanted) (list_of (region_of f)) (list_of (region_of g))
  pub planned : plan_allowed (region_of (joined_file f g)) ≡ (plan_allowed (region_of f) && plan_allowed (region_of g))
  -- The sheet of a clinic begins as in its own file, joined to others by tables or not.
  pub first_sheet : YieldsList f → YieldsList g → (c : ℕ) → clinic_present (region_of f) c ≡ true → SameBeginning (sheet_of (region_of (joined_file f g)) c) (sheet_of (region_of f) c)
  pub second_sheet : YieldsList f → YieldsList g → (c : ℕ) → clinic_present (region_of g) c ≡ true → SameBeginning (sheet_of (region_of (joined_file f g)) c) (sheet_of (region_of g) c)

-- What it takes: both files are accepted, and 16 and 17 are answered yes.
module _ (f g : List ℕ) (in_f : check_of f ≡ 0) (in_g : check_of g ≡ 0)
    (apart : clinics_apart (region_of f) (region_of g) ≡ true) (fits : join_within (region_of f) (region_of g) ≡ true) where
  abbrev r : Region
  r = region_of f

  abbrev s : Region
  s = region_of g

  a : Accepted r
  a = (accepted f in_f).region

  b : Accepted s
  b = (accepted g in_g).region

  -- The joined region is as it is held, so the joined file is a written one.
  held : Accepted (as_held (joined_region r s))
  held = rw (joined_held r s) (joined_accepted r s a b fits)

  written : joined_file f g ≡ written_file (joined_region r s)
  unfolding joined_file written_file
  written = ap spell (sym (joined_held r s))

  file_says : region_of (joined_file f g) ≡ joined_region r s
  file_says = ap region_of written ∙ written_region (joined_region r s) held ∙ joined_held r s

  file_checked : check_of (joined_file f g) ≡ 0
  file_checked = ap check_of written ∙ written_accepted (joined_region r s) held

  file_planned : plan_allowed (region_of (joined_file f g)) ≡ (plan_allowed r && plan_allowed s)
  file_planned = ap plan_allowed file_says ∙ joined_none r s a b

  file_yields : YieldsList f → YieldsList g → YieldsList (joined_file f g)
  file_yields list_f list_g =
      (yields (joined_file f g)).1 (record { checked = file_checked; planned = file_planned ∙ join ((yields f).0 list_f).planned ((yields g).0 list_g).planned })

  file_sheet : YieldsList f → YieldsList g → (c : ℕ) (own : Region) → Begins (sheet_of (joined_region r s) c) (sheet_of own c)
      → SameBeginning (sheet_of (region_of (joined_file f g)) c) (sheet_of own c)
  file_sheet list_f list_g c own begins = begins_alike _ _ (rw file_says begins) (sheet_some (joined_file f g) (file_yields list_f list_g) c)

  file_short : length (joined_file f g) ≤ most_written
  file_short = subst (λ file. length file ≤ most_written) (sym written) (written_short (joined_region r s) held)

  file_rows : list_of (region_of (joined_file f g)) ≡ first_pairs (min r.plans_wanted s.plans_wanted) (list_of r) (list_of s)
  file_rows = ap list_of file_says ∙ joined_list_lem r s a b

  file_first_sheet : YieldsList f → YieldsList g → (c : ℕ) → clinic_present r c ≡ true → SameBeginning (sheet_of (region_of (joined_file f g)) c) (sheet_of r c)
  file_first_sheet list_f list_g c present = file_sheet list_f list_g c r (first_sheet_lem r s a b c (not_in_second r s apart c present))

  file_second_sheet : YieldsList f → YieldsList g → (c : ℕ) → clinic_present s c ≡ true → SameBeginning (sheet_of (region_of (joined_file f g)) c) (sheet_of s c)
  file_second_sheet list_f list_g c present = file_sheet list_f list_g c s (second_sheet_lem r s a b c (not_in_first r s apart c present))

  -- All of it. The theorems below are proved of its parts, so that each stands by itself.
  made_joined : Joined f g
  made_joined = record {
    says = file_says;
    checked = file_checked;
    short = file_short;
    rows = file_rows;
    planned = file_planned;
    first_sheet = file_first_sheet;
    second_sheet = file_second_sheet;
  }

-- Its questions are answered yes where all are, perhaps with some more before 16.
all_asked : (f g output : List ℕ) (more : Asked) → all_yes ((asked_by_check f ++ asked_by_check g) ++ (more ++ (asked_by_join f g output).later)) ≡ true
    → (check_of f ≡ 0) × (check_of g ≡ 0) × (clinics_apart (region_of f) (region_of g) ≡ true) × (join_within (region_of f) (region_of g) ≡ true)
unfolding asked_by_join
all_asked f g output more all =
    let later = more ++ (asked_by_join f g output).later in
    let (in_f, rest) = (asked_after f (asked_by_check g ++ later)).0 (subst (λ asked. all_yes asked ≡ true) (append_assoc (asked_by_check f) (asked_by_check g) later) all) in
    let (in_g, last) = (asked_after g later).0 rest in
    let (apart, others) = both (clinics_apart (region_of f) (region_of g)) (every_split _ more (asked_by_join f g output).later last).1 in
    (in_f, in_g, apart, (both (join_within (region_of f) (region_of g)) others).0)

-- So it is where every question is answered yes, perhaps with some more before 16.
all_joined : (f g output : List ℕ) (more : Asked) → all_yes ((asked_by_check f ++ asked_by_check g) ++ (more ++ (asked_by_join f g output).later)) ≡ true → Joined f g
all_joined f g output more all =
    let (in_f, in_g, apart, fits) = all_asked f g output more all in
    record {
      says = file_says f g in_f in_g apart fits;
      checked = file_checked f g in_f in_g apart fits;
      short = file_short f g in_f in_g apart fits;
      rows = file_rows f g in_f in_g apart fits;
      planned = file_planned f g in_f in_g apart fits;
      first_sheet = file_first_sheet f g in_f in_g apart fits;
      second_sheet = file_second_sheet f g in_f in_g apart fits;
    }

-- ---- the entry

module _ (f g output : List ℕ) where
  -- The number is 0 where all are answered yes, ..
  join_zero : ((join_outcome f g output).number ≡ 0) ↔ (all_yes (entry_asks (asked_by_join f g output)) ≡ true)
  unfolding join_outcome asked_by_join asked_by_check
  join_zero = (says (entry_asks (asked_by_join f g output)) tt).accepted

  -- .. and else that of the first question answered no.
  pub join_says : Says (entry_asks (asked_by_join f g output)) (join_outcome f g output).number
  unfolding join_outcome asked_by_join asked_by_check
  join_says = says (entry_asks (asked_by_join f g output)) tt

  -- Which file it is about.
  pub join_which : Which f g (join_outcome f g output).which (join_outcome f g output).number (0 ∷ 16 ∷ 17 ∷ 15 ∷ [])
  unfolding join_outcome asked_by_join
  join_which =
      let (first, second, neither, first_number, second_number, neither_number) = asked_about f g (asked_by_join f g output).later tt in
      record { first = first; second = second; neither = neither; first_number = first_number; second_number = second_number; neither_number = neither_number }

  -- Number 0: the joined file is written, and it is what it should be.
  pub join_wrote : (join_outcome f g output).number ≡ 0 → Wrote (joined_file f g) output (join_outcome f g output).output (join_outcome f g output).count
  unfolding join_outcome asked_by_join asked_by_check
  join_wrote e =
      let before = (asked_by_check f ++ asked_by_check g) ++ (16, clinics_apart (region_of f) (region_of g)) ∷ (17, join_within (region_of f) (region_of g)) ∷ [] in
      made_wrote before (joined_file f g) output (join_zero.0 e)

  pub join_joined : (join_outcome f g output).number ≡ 0 → Joined f g
  unfolding asked_by_join
  join_joined e =
      let (in_f, in_g, apart, fits) = all_asked f g output [] (join_zero.0 e) in
      record {
        says = file_says f g in_f in_g apart fits;
        checked = file_checked f g in_f in_g apart fits;
        short = file_short f g in_f in_g apart fits;
        rows = file_rows f g in_f in_g apart fits;
        planned = file_planned f g in_f in_g apart fits;
        first_sheet = file_first_sheet f g in_f in_g apart fits;
        second_sheet = file_second_sheet f g in_f in_g apart fits;
      }

  -- A refusal writes nothing.
  pub join_refused_lem : (q : ℕ) → (join_outcome f g output).number ≡ suc q → Unwritten output (join_outcome f g output).output (join_outcome f g output).count
  unfolding join_outcome
  join_refused_lem q e = made_refused (entry_asks (asked_by_join f g output)) (joined_file f g) output q e

-- ---- the call from C, which asks 12 of its result area before 16

-- Number 0 is about neither file.
none_refused : {f g later : List ℕ} {number : ℕ} (w : WhichFile) → Which f g w number later → number ≡ 0 → file_number w ≡ 0
none_refused neither_file h e = refl
none_refused first_file h e = absurd (h.first.0 refl (sym (h.first_number refl) ∙ e))
none_refused second_file h e = absurd ((h.second.0 refl).1 (sym (h.second_number refl) ∙ e))

-- The same of the two numbers.
none_about : {m n number : ℕ} {later : List ℕ} (w : WhichFile) → About m n w number later → number ≡ 0 → file_number w ≡ 0
none_about neither_file h e = refl
none_about first_file (first, second, neither, first_number, second_number, neither_number) e = absurd (first.0 refl (sym (first_number refl) ∙ e))
none_about second_file (first, second, neither, first_number, second_number, neither_number) e = absurd ((second.0 refl).1 (sym (second_number refl) ∙ e))

module _ (f g output result : List ℕ) where
  abbrev call : WriteCall
  call = join_call f g output result

  call_zero : (call.number ≡ 0) ↔ (all_yes (call_asks (asked_by_join f g output) (room_for_numbers 2 result)) ≡ true)
  unfolding join_call write_call_of asked_by_join asked_by_check
  call_zero = (says (call_asks (asked_by_join f g output) (room_for_numbers 2 result)) tt).accepted

  pub join_call_says : Says (call_asks (asked_by_join f g output) (room_for_numbers 2 result)) call.number
  unfolding join_call write_call_of asked_by_join asked_by_check
  join_call_says = says (call_asks (asked_by_join f g output) (room_for_numbers 2 result)) tt

  pub join_call_which : Which f g (refused_file f g) call.number (0 ∷ 12 ∷ 16 ∷ 17 ∷ 15 ∷ [])
  unfolding join_call write_call_of asked_by_join
  join_call_which =
      let (first, second, neither, first_number, second_number, neither_number) =
      asked_about f g ((12, room_for_numbers 2 result) ∷ (asked_by_join f g output).later) tt in
      record { first = first; second = second; neither = neither; first_number = first_number; second_number = second_number; neither_number = neither_number }

  -- Number 0: the joined file is written, and the result is its length, then 0.
  pub join_call_wrote : call.number ≡ 0
      → (Wrote (joined_file f g) output call.output (length (joined_file f g))) × (call.result ≡ result_after (length (joined_file f g) ∷ 0 ∷ []) result)
  unfolding join_call write_call_of asked_by_join asked_by_check
  join_call_wrote e =
      let r = region_of f in
      let s = region_of g in
      let before = (asked_by_check f ++ asked_by_check g) ++ (12, room_for_numbers 2 result) ∷ (16, clinics_apart r s) ∷ (17, join_within r s) ∷ [] in
      let wrote = made_wrote before (joined_file f g) output (call_zero.0 e) in
      let which = none_about (refused_file f g) (asked_about f g ((12, room_for_numbers 2 result) ∷ (asked_by_join f g output).later) tt) e in
      (record { counted = refl; fits = wrote.fits; output = wrote.output }, ap₂ (λ n k. result_after (n ∷ k ∷ []) result) wrote.counted which)

  pub join_call_joined : call.number ≡ 0 → Joined f g
  unfolding asked_by_join
  join_call_joined e =
      let (in_f, in_g, apart, fits) = all_asked f g output ((12, room_for_numbers 2 result) ∷ []) (call_zero.0 e) in
      record {
        says = file_says f g in_f in_g apart fits;
        checked = file_checked f g in_f in_g apart fits;
        short = file_short f g in_f in_g apart fits;
        rows = file_rows f g in_f in_g apart fits;
        planned = file_planned f g in_f in_g apart fits;
        first_sheet = file_first_sheet f g in_f in_g apart fits;
        second_sheet = file_second_sheet f g in_f in_g apart fits;
      }

  -- A refusal writes no file, and the result is 0, then which file the number is about.
  pub join_call_refused : (q : ℕ) → call.number ≡ suc q → (call.output ≡ output) × (call.result ≡ result_after (0 ∷ file_number (refused_file f g) ∷ []) result)
  unfolding join_call write_call_of
  join_call_refused q e =
      let left = made_refused (call_asks (asked_by_join f g output) (room_for_numbers 2 result)) (joined_file f g) output q e in
      (left.output, ap (λ n. result_after (n ∷ file_number (refused_file f g) ∷ []) result) left.counted)
