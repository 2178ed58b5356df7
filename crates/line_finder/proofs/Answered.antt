-- What line answers, by what its questions gave.
use mathlib.Core.Path.{◌≡◌, sym, ap, ◌∙◌}
use Prim.Native.Nat.{◌-◌}
use native.Mathlib.Omega.{arith}
use Rattle.std.specs.Prelude.{◌∷◌}
use Rattle.definitions.specs.Basics.{ℕ, suc, true, false, List, [], length}
use Rattle.definitions.specs.Layout.{lines}
use Rattle.definitions.specs.Questions.{first_no, entry_asks, check_of}
use Rattle.definitions.specs.Lookup.{typed_right, first_line, line_over, asked_by_line, LineOutcome, part_unless_refused, line_found, line_outcome}
use Rattle.theorems.specs.Accepted.{accepted}
use Rattle.theorems.specs.Refusals.{after_check, refused_before}
use Rattle.theorems.specs.Lookup.{begins}
use Rattle.theorems.proofs.Lookup.{over_begins}
use Rattle.line_finder.specs.Found.{no_line}

module _ (file typed : List ℕ) where
  outcome_with_lem : {n : ℕ} → first_no (entry_asks (asked_by_line file typed)) ≡ n → line_outcome file typed ≡ record { number = n; part = part_unless_refused n file (line_over file typed) }
  unfolding line_outcome line_found
  outcome_with_lem e = ap {B = LineOutcome} (λ n. record { number = n; part = part_unless_refused n file (line_over file typed) }) e

  -- Check refuses the file.
  pub file_refused : {n : ℕ} → n ≡ check_of file → (n ≡ 0 → ⊥) → no_line n (length file) ≡ line_outcome file typed
  unfolding asked_by_line
  file_refused {n} e some_no =
      let some : n ≡ suc (n - 1) = omega arith in
      ap (λ k. no_line k (length file)) some ∙ sym (outcome_with_lem (refused_before file ((21, typed_right typed) ∷ []) (n - 1) (sym e ∙ some)))

  module _ (fine : check_of file ≡ 0) where
    -- The typed bytes are no list of members.
    pub typed_refused : typed_right typed ≡ false → no_line 21 (length file) ≡ line_outcome file typed
    unfolding asked_by_line
    typed_refused e = sym (outcome_with_lem (after_check file ((21, typed_right typed) ∷ []) fine ∙ ap (λ b. first_no ((21, b) ∷ [])) e))

    -- They are one.
    pub line_there : typed_right typed ≡ true → record { number = 0; part = first_line (begins typed) 0 (lines file) } ≡ line_outcome file typed
    unfolding asked_by_line
    line_there e =
        sym (outcome_with_lem (after_check file ((21, typed_right typed) ∷ []) fine ∙ ap (λ b. first_no ((21, b) ∷ [])) e)
        ∙ ap {B = LineOutcome} (λ part. record { number = 0; part = part }) (over_begins file (accepted file fine).laid typed e))
