-- What list and sheet share: questions after check's, the last of which are 12 and 13, and then rows of one width.
use Rattle.std.proofs.Common.{sym, ap, ap₂, ◌∙◌, arith, ◌≡◌, ◌∷◌, ◌++◌}
use Rattle.std.specs.Prelude.{◌≤◌}
use Rattle.definitions.specs.Basics.{ℕ, zero, suc, refl, Bool, true, false, List, [], length}
use Rattle.definitions.specs.Syntax.{Region}
use Rattle.definitions.specs.Plans.{Row}
use Rattle.definitions.specs.Questions.{Asked, first_no, region_of, asked_by_check, check_of, plan_allowed}
use Rattle.definitions.specs.Outcomes.{Found, ListOutcome, unless_refused, found_by, outcome_of}
use Rattle.held_region.specs.declared.Refusal.{Refusal}
use Rattle.held_region.specs.declared.Refusal.TheVariants.{TooLong, Layout, Counts, Sum, Limits, Patients, Members, EntryCounts, Entries, Ancestors}
use Rattle.theorems.specs.Refusals.{after_check, refused_before}
use Rattle.answers.specs.Answers.{refusal_number}
use Rattle.answers.specs.Numbers.{refusal_number_lem}

-- Questions 12 and 13; the answer to 12 is handed in.
abbrev pub last_asked : Region → Bool → Asked
last_asked r long = (12, long) ∷ (13, plan_allowed r) ∷ []

-- What is found after a number: a refusal finds no rows.
abbrev pub found_with : ℕ → List Row → ℕ → Found
found_with width rows number = record { number = number; width = width; rows = unless_refused number rows }

-- The number, by the answers to 12 and 13.
module _ (r : Region) {long : Bool} where
  pub no_twelve : long ≡ false → first_no (last_asked r long) ≡ 12
  no_twelve e = ap (λ b. first_no (last_asked r b)) e

  pub no_thirteen : long ≡ true → plan_allowed r ≡ false → first_no (last_asked r long) ≡ 13
  no_thirteen e none_allowed_lem = ap₂ (λ b some. first_no ((12, b) ∷ (13, some) ∷ [])) e none_allowed_lem

  pub no_refusal : long ≡ true → plan_allowed r ≡ true → first_no (last_asked r long) ≡ 0
  no_refusal e allowed = ap₂ (λ b some. first_no ((12, b) ∷ (13, some) ∷ [])) e allowed

-- ---- every lent byte, by the number

module _ (width : ℕ) (rows : List Row) (beds costs work : List ℕ) where
  -- A refusal that hands back no rows and leaves this in the work area.
  abbrev refused_with : ℕ → List ℕ → ListOutcome
  refused_with number after = record { number = number; rows = 0; beds = beds; costs = costs; work = after }

  -- What the areas hold after a number.
  abbrev pub outcome_with : ℕ → ListOutcome
  outcome_with number = outcome_of (found_with width rows number) beds costs work

  -- Questions that were asked, by the number that they gave.
  pub asked_outcome : (asked : Asked) {number : ℕ} → first_no asked ≡ number → outcome_with number ≡ outcome_of (found_by asked width rows) beds costs work
  asked_outcome asked e = ap outcome_with (sym e)

  -- A refusal by questions 1 to 10 touches nothing.
  refused_outcome : (refusal : Refusal) → refused_with (refusal_number refusal) work ≡ outcome_with (refusal_number refusal)
  unfolding outcome_of
  refused_outcome TooLong = refl
  refused_outcome Layout = refl
  refused_outcome Counts = refl
  refused_outcome Sum = refl
  refused_outcome Limits = refl
  refused_outcome Patients = refl
  refused_outcome Members = refl
  refused_outcome EntryCounts = refl
  refused_outcome Entries = refl
  refused_outcome Ancestors = refl

  -- The questions after check's count only where check gives 0.
  module _ (file : List ℕ) (late : Asked) where
    pub refused_entry : (refusal : Refusal) → refusal_number refusal ≡ check_of file
        → refused_with (refusal_number refusal) work ≡ outcome_of (found_by (asked_by_check file ++ late) width rows) beds costs work
    refused_entry refusal e =
        refused_outcome refusal ∙ asked_outcome (asked_by_check file ++ late) (refused_before file late _ (sym e ∙ refusal_number_lem refusal) ∙ sym (refusal_number_lem refusal))

    pub accepted_entry : check_of file ≡ 0 → outcome_of (found_by late width rows) beds costs work ≡ outcome_of (found_by (asked_by_check file ++ late) width rows) beds costs work
    accepted_entry e = asked_outcome (asked_by_check file ++ late) (after_check file late e)

-- ---- what is found, by the answer to 12

-- The answer to 12 counts only where check gives 0; there are at most m rows, and none where it is no.
pub record AsksTwelve (file : List ℕ) (found : Bool → Found) : Type 0 where
  pub later : (q : ℕ) → check_of file ≡ suc q → (one other : Bool) → found one ≡ found other
  pub most : (long : Bool) → length (found long).rows ≤ (region_of file).plans_wanted
  pub short : (found false).rows ≡ []

-- A refusal hands back no more rows than there are.
unless_short : (n : ℕ) (rows : List Row) → length (unless_refused n rows) ≤ length rows
unless_short zero rows = omega arith
unless_short (suc n) rows = omega arith

-- So it is where what is asked after check's questions refuses on a no to 12.
pub asks_twelve : (file : List ℕ) (asked late : Bool → Asked) → ((long : Bool) → asked long ≡ asked_by_check file ++ late long)
    → (width : ℕ) (rows : List Row) → length rows ≤ (region_of file).plans_wanted
    → (q : ℕ) → first_no (late false) ≡ suc q → AsksTwelve file (λ long. found_by (asked long) width rows)
asks_twelve file asked late same width rows few q refused =
    record {
      later = λ p e one other. ap (found_with width rows) (before p e one ∙ sym (before p e other));
      most = λ long. let least = unless_short (first_no (asked long)) rows in omega (arith, least, few);
      short = go (check_of file) refl;
    }
  where
    before : (p : ℕ) → check_of file ≡ suc p → (long : Bool) → first_no (asked long) ≡ suc p
    before p e long = ap first_no (same long) ∙ refused_before file (late long) p e

    go : (n : ℕ) → check_of file ≡ n → unless_refused (first_no (asked false)) rows ≡ []
    go zero e = ap (λ n. unless_refused n rows) (ap first_no (same false) ∙ after_check file (late false) e ∙ refused)
    go (suc p) e = ap (λ n. unless_refused n rows) (before p e false)
