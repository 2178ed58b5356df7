-- The text of a region in its parts, and the sheets that are left of it, clinic by clinic.
use mathlib.Core.Path.{◌≡◌, refl, sym, ap, ◌∙◌}
use mathlib.Core.List.{append_assoc, append-nil}
use native.Mathlib.Numerals.{add-one}
use native.Mathlib.Omega.{arith}
use Prim.Native.Nat.{◌≤◌}
use Rattle.std.specs.Prelude.{◌+◌, ◌-◌, ◌<◌, ◌∷◌, ◌++◌}
use Rattle.definitions.specs.Basics.{ℕ, suc, Bool, true, false, cond, List, [], flat_map, flatten, numbers_from, below, keep, text}
use Rattle.definitions.specs.Limits.{limits}
use Rattle.definitions.specs.Syntax.{Region}
use Rattle.definitions.specs.Spelling.{decimal, line}
use Rattle.definitions.specs.Plans.{list_of}
use Rattle.definitions.specs.Sheets.{sheet_of}
use Rattle.definitions.specs.Questions.{first_no, clinic_present, plan_allowed}
use Rattle.definitions.specs.Output.{printed_rows, clinics_present, printed_answer}
use Rattle.text_writer.specs.Wrote.{Wrote, Left, none_left, other_parts}
use Rattle.printer.specs.Steps.{clinic_text, clinic_count, sheets_from, region_text}

-- Texts of the kept elements are texts of all, where the others have none.
kept_texts : (f : ℕ → Bool) (g : ℕ → List ℕ) (l : List ℕ) → flat_map g (keep f l) ≡ flat_map (λ c. cond (f c) (g c) []) l
unfolding flat_map
kept_texts f g [] = refl
kept_texts f g (x ∷ l) = go (f x) (kept_texts f g l)
  where
    go : (b : Bool) → flat_map g (keep f l) ≡ flat_map (λ c. cond (f c) (g c) []) l
        → flat_map g (cond b (x ∷ keep f l) (keep f l)) ≡ cond b (g x) [] ++ flat_map (λ c. cond (f c) (g c) []) l
    go true e = ap (λ (m : List ℕ). g x ++ m) e
    go false e = e

module _ (r : Region) where
  -- The whole text, by the answer to question 13.
  pub nothing_text : plan_allowed r ≡ false → region_text r ≡ line (text "refused" ∷ decimal 13 ∷ [])
  unfolding region_text
  nothing_text e = ap (λ b. printed_answer (first_no ((13, b) ∷ [])) r) e

  pub text_parts : plan_allowed r ≡ true → region_text r ≡ flatten (printed_rows (text "list" ∷ []) (list_of r) ∷ sheets_from r 0 ∷ [])
  unfolding region_text sheets_from clinic_text clinics_present limits flatten
  text_parts e =
      ap (λ b. printed_answer (first_no ((13, b) ∷ [])) r) e
      ∙ ap (λ (l : List ℕ). printed_rows (text "list" ∷ []) (list_of r) ++ l)
      (kept_texts (clinic_present r) (λ c. printed_rows (text "sheet" ∷ decimal c ∷ []) (sheet_of r c)) (below clinic_count) ∙ sym (append-nil (sheets_from r 0)))

  module _ (c : ℕ) {whole out now : List ℕ} {at place : ℕ} (left : Left whole at out (sheets_from r c ∷ []) now place) where
    -- Clinic c is next; after clinic 15 nothing is left.
    pub clinic_left : c < clinic_count → Left whole at out (clinic_text r c ∷ sheets_from r (c + 1) ∷ []) now place
    unfolding sheets_from flatten flat_map
    clinic_left h =
        let e : clinic_count - c ≡ suc (clinic_count - suc c) = omega arith in
        rw (add-one c) (other_parts (clinic_text r c ∷ sheets_from r (suc c) ∷ [])
        (ap (λ (n : ℕ). flat_map (clinic_text r) (numbers_from c n) ++ []) e ∙ append_assoc (clinic_text r c) (sheets_from r (suc c)) []) left)

    pub sheets_done : clinic_count ≤ c → Wrote whole at out now place
    unfolding sheets_from flatten flat_map
    sheets_done h =
        let e : clinic_count - c ≡ 0 = omega arith in
        none_left (other_parts [] (ap (λ (n : ℕ). flat_map (clinic_text r) (numbers_from c n) ++ []) e) left)
