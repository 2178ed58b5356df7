-- Question 13 of a region, as the list's row count answers it.
-- (Theorems that rest on these stand in `proofs/PlanAllowed.antt`.)
use Rattle.std.specs.Prelude.{◌≡◌, refl}
use Rattle.std.proofs.Common.{sym, ◌∙◌, arith, ◌∷◌}
use Rattle.definitions.specs.Basics.{ℕ, List, [], length}
use Rattle.definitions.specs.Syntax as Said
use Rattle.definitions.specs.Plans.{Row, list_of}
use Rattle.theorems.specs.Accepted.{Accepted}

-- Where at least one plan is wanted, question 13 asks whether the list has a row.
module _ (r : Said.Region) (accepted : Accepted r) {n : ℕ} (count : n ≡ length (list_of r)) where
  pub no_list : n ≡ 0 → list_of r ≡ []
  no_list None-found = no_rows (list_of r) (sym count ∙ None-found)
    where
      no_rows : (l : List Row) → length l ≡ 0 → l ≡ []
      no_rows [] e = refl
      no_rows (x ∷ l) e = absurd (omega arith)
