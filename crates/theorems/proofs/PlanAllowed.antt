-- Question 13 of a region, as the list's row count answers it.
use Rattle.std.specs.Prelude.{◌≡◌, refl}
use Rattle.std.proofs.Common.{ap, ◌∙◌}
use Rattle.definitions.specs.Basics.{ℕ, Bool, true, false, length}
use Rattle.definitions.specs.Syntax as Said
use Rattle.definitions.specs.Plans.{list_of}
use Rattle.definitions.specs.Questions.{plan_allowed}
use Rattle.theorems.proofs.List.{list_empty}
use Rattle.theorems.specs.Accepted.{Accepted, plans_wanted_lem}
use Rattle.theorems.specs.PlanAllowed.{no_list}

-- Where at least one plan is wanted, question 13 asks whether the list has a row.
module _ (r : Said.Region) (accepted : Accepted r) {n : ℕ} (count : n ≡ length (list_of r)) where
  pub list_none : n ≡ 0 → plan_allowed r ≡ false
  list_none None-found = (list_empty r (plans_wanted_lem r accepted).0).0 (no_list r accepted count None-found)

  pub list_some : (n ≡ 0 → ⊥) → plan_allowed r ≡ true
  list_some some_found = not_false_true (λ e. some_found (count ∙ ap length ((list_empty r (plans_wanted_lem r accepted).0).1 e)))
    where
      not_false_true : {b : Bool} → (b ≡ false → ⊥) → b ≡ true
      not_false_true {b = true} no_no = refl
      not_false_true {b = false} no_no = absurd (no_no refl)
