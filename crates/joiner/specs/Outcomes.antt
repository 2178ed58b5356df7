-- What join gives back, by the answers to the questions of the first file, of the second, and of both.
use Rattle.std.specs.Prelude.{◌≡◌, refl, ◌-◌, Option, Some, None, Result, Err}
use Rattle.std.proofs.Math.Path.{sym, ap, ap₂}
use Rattle.std.proofs.Common.{◌∙◌, append_assoc, arith, ne_eqb, ◌∷◌, ◌++◌}
use Rattle.definitions.specs.Basics.{ℕ, suc, true, false, cond, List, [], eqb}
use Rattle.definitions.specs.Syntax.{Region}
use Rattle.definitions.specs.Spelling.{spell}
use Rattle.definitions.specs.Questions.{Asked, first_no, region_of, asked_by_check, check_of}
use Rattle.definitions.specs.Writer.{room_for_file, made_by, WriteOutcome, write_outcome_of}
use Rattle.definitions.specs.Joining.{joined_region, joined_file, clinics_apart, join_within, asked_by_join, WhichFile, neither_file, first_file, second_file, refused_file, JoinOutcome, join_outcome}
use Rattle.lists.specs.Tests.{join}
use Rattle.theorems.specs.Answers.{no_then}
use Rattle.theorems.specs.Refusals.{after_check, refused_before}
use Rattle.theorems.specs.Writer.{made_with}
use Rattle.held_region.specs.declared.Refusal.{Refusal}
use Rattle.std.specs.Option.{ok_or}
use Rattle.file_answers.specs.declared.JoinError.{JoinError}
use Rattle.file_answers.specs.declared.JoinError.TheVariants.{FirstRefused, SecondRefused, Shared, TooMany, Short}
use Rattle.answers.specs.Answers.{refusal_number}
use Rattle.file_answers.specs.Answers.{joined_outcome}
use Rattle.answers.specs.Numbers.{refusal_number_lem}
use Rattle.writer.specs.Outcomes.{placed_outcome, placing, then_placed, refused_with_lem}

-- The file of two regions that are joined; what is asked of both.
abbrev pub file_of_both : Region → Region → List ℕ
file_of_both r s = spell (joined_region r s)

abbrev asked_of_both : Region → Region → List ℕ → Asked
asked_of_both r s output = (16, clinics_apart r s) ∷ (17, join_within r s) ∷ (15, room_for_file (file_of_both r s) output) ∷ []

-- What a writer gives back, with the file that the number is about.
abbrev about : WhichFile → WriteOutcome → JoinOutcome
about which o = record { number = o.number; which = which; count = o.count; output = o.output }

-- Once the first file is accepted, and once both are.
unfoldable pub once_accepted : Region → List ℕ → List ℕ → JoinOutcome
once_accepted r g output =
    about (cond (eqb (check_of g) 0) neither_file second_file)
    (write_outcome_of (made_by (asked_by_check g ++ asked_of_both r (region_of g) output) (file_of_both r (region_of g))) output)

unfoldable pub once_both : Region → Region → List ℕ → JoinOutcome
once_both r s output = about neither_file (write_outcome_of (made_by (asked_of_both r s output) (file_of_both r s)) output)

-- An outcome by its number, and by the file that it is about.
about_both : (asked others : Asked) (file output : List ℕ) {which other : WhichFile} → first_no asked ≡ first_no others → which ≡ other
    → about which (write_outcome_of (made_by asked file) output) ≡ about other (write_outcome_of (made_by others file) output)
about_both asked others file output number is =
    ap₂ about is (made_with asked file output number ∙ sym (made_with others file output refl))

-- A number that is not 0.
not_zero : {n q : ℕ} → n ≡ suc q → eqb n 0 ≡ false
not_zero {n} e = ne_eqb n 0 (λ z. omega (arith, e, z))

module _ (f g output : List ℕ) where
  -- The number is the first file's, and so it is about the first file.
  pub first_refused_lem : (refusal : Refusal) → refusal_number refusal ≡ check_of f → joined_outcome (Err (FirstRefused refusal)) output ≡ join_outcome f g output
  unfolding join_outcome joined_file asked_by_join refused_file write_outcome_of
  first_refused_lem refusal e = ap₂ about which (refused_with_lem (asked ++ later) (joined_file f g) output refusal (number ∙ sym (refusal_number_lem refusal)))
    where
      asked : Asked
      asked = asked_by_check f ++ asked_by_check g

      later : Asked
      later = asked_of_both (region_of f) (region_of g) output

      is : check_of f ≡ suc (refusal_number refusal - 1)
      is = sym e ∙ refusal_number_lem refusal

      which : first_file ≡ refused_file f g
      which = unfold refused_file in sym (ap (λ b. cond b (cond (eqb (check_of g) 0) neither_file second_file) first_file) (not_zero is))

      number : first_no (asked ++ later) ≡ suc (refusal_number refusal - 1)
      number = no_then asked later _ (refused_before f (asked_by_check g) _ is)

  -- It is accepted: the second file decides.
  pub first_accepted : check_of f ≡ 0 → once_accepted (region_of f) g output ≡ join_outcome f g output
  unfolding join_outcome joined_file asked_by_join refused_file write_outcome_of once_accepted
  first_accepted e =
      let later = asked_of_both (region_of f) (region_of g) output in
      sym (about_both ((asked_by_check f ++ asked_by_check g) ++ later) (asked_by_check g ++ later) (joined_file f g) output
      (ap first_no (append_assoc (asked_by_check f) (asked_by_check g) later) ∙ after_check f (asked_by_check g ++ later) e)
      (ap (λ n. cond (eqb n 0) (cond (eqb (check_of g) 0) neither_file second_file) first_file) e))

module _ (r : Region) (g output : List ℕ) where
  pub second_refused_lem : (refusal : Refusal) → refusal_number refusal ≡ check_of g → joined_outcome (Err (SecondRefused refusal)) output ≡ once_accepted r g output
  unfolding once_accepted
  second_refused_lem refusal e =
      let later = asked_of_both r (region_of g) output in
      let is = sym e ∙ refusal_number_lem refusal in
      ap₂ about (sym (ap (λ b. cond b neither_file second_file) (not_zero is)))
      (refused_with_lem (asked_by_check g ++ later) (file_of_both r (region_of g)) output refusal (refused_before g later _ is ∙ sym (refusal_number_lem refusal)))

  pub second_accepted : check_of g ≡ 0 → once_both r (region_of g) output ≡ once_accepted r g output
  unfolding once_accepted once_both
  second_accepted e =
      sym (about_both (asked_by_check g ++ asked_of_both r (region_of g) output) (asked_of_both r (region_of g) output) (file_of_both r (region_of g)) output (after_check g (asked_of_both r (region_of g) output) e) (ap (λ n. cond (eqb n 0) neither_file second_file) e))

-- The answer of a file that is placed, or not.
pub joined_placed : (placed : Option ℕ) {answer : Result ℕ JoinError} {after : List ℕ} → answer ≡ ok_or placed Short → joined_outcome answer after ≡ about neither_file (placed_outcome placed after)
joined_placed None {answer} {after} is = ap (λ a. joined_outcome a after) is
joined_placed (Some n) {answer} {after} is = ap (λ a. joined_outcome a after) is

-- Both are accepted: a no to 16, a no to 17, and a yes to both, after which the file is placed.
module _ (r s : Region) (output : List ℕ) where
  pub clinics_shared : clinics_apart r s ≡ false → joined_outcome (Err Shared) output ≡ once_both r s output
  unfolding once_both
  clinics_shared e = ap (about neither_file) (sym (made_with (asked_of_both r s output) (file_of_both r s) output (ap (λ b. first_no ((16, b) ∷ (17, join_within r s) ∷ (15, room_for_file (file_of_both r s) output) ∷ [])) e)))

  module _ (apart : clinics_apart r s ≡ true) where
    pub too_many : join_within r s ≡ false → joined_outcome (Err TooMany) output ≡ once_both r s output
    unfolding once_both
    too_many e = ap (about neither_file) (sym (made_with (asked_of_both r s output) (file_of_both r s) output (ap₂ (λ a b. first_no ((16, a) ∷ (17, b) ∷ (15, room_for_file (file_of_both r s) output) ∷ [])) apart e)))

    pub file_placed : join_within r s ≡ true → (placed : Option ℕ) {after : List ℕ} → placed_outcome placed after ≡ placing (file_of_both r s) output
        → about neither_file (placed_outcome placed after) ≡ once_both r s output
    unfolding once_both
    file_placed fits placed e =
        ap (about neither_file) (
        e
        ∙ sym (then_placed (file_of_both r s) output ((16, clinics_apart r s) ∷ (17, join_within r s) ∷ []) (join apart (join fits refl))))
