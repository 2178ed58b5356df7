-- What a 32-bit word says of patients: patient p is in the set w where bit p of w is 1.
use Rattle.std.specs.Prelude.{◌/◌, ◌%◌, ◌^◌, ◌∷◌}
use Rattle.definitions.specs.Basics.{ℕ, Bool, List, [], eqb, keep, below}
use Rattle.patient_set.specs.declared.Patients.{Patients}

-- Is patient p in the set w?
abbrev pub in_set : ℕ → ℕ → Bool
in_set w p = eqb (w / 2 ^ p % 2) 1

-- The patients of the set w, rising.
unfoldable pub members : ℕ → List ℕ
members w = keep (in_set w) (below 32)

-- The patients who have not come yet.
abbrev pub left_in : Patients → List ℕ
left_in s = members s.left.0

-- The first of a list, d where it has none.
abbrev pub first : ℕ → List ℕ → ℕ
first d [] = d
first d (x ∷ l) = x
