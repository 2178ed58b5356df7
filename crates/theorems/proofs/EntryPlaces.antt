-- The place of a table's entry, kept while beds change: it begins at 0, and one bed moves it by the patient's stride alone.
use Rattle.std.proofs.Common.{add-mul, ◌+◌, ◌*◌, ◌<◌, ◌≡◌, ◌∷◌}
use Rattle.std.proofs.Math.Decide.{ℕ_discrete}
use native.Mathlib.Omega.{arith}
use borrow.Author.Tests.{ltb-true, eq-eqb, ne_eqb}
use Rattle.std.specs.Prelude.{set}
use Rattle.std.proofs.Math.Seq.{get_or-set_same, get_or-set_other}
use Rattle.definitions.specs.Basics.{ℕ, true, List, [], length, ltb, every, every_two}
use Rattle.definitions.specs.Syntax.{Table, Region}
use Rattle.definitions.specs.Plans.{Plan, bed_of, place, place_in, stride}
use Rattle.lists.specs.Tests.{both}
use Rattle.lists.specs.Every.{every_in}
use Rattle.theorems.specs.EntryPlaces
use Rattle.theorems.specs.EntryPlaces.{stride_outside, place_first, PlaceMoved}

module _ (region : Region) where
  abbrev place_over : Plan → List ℕ → ℕ
  place_over = EntryPlaces.place_over region

  module _ (plan : Plan) (s bed : ℕ) (known : s < length plan) where
    over_moved : (members : List ℕ) → every_two ltb members ≡ true
        → place_over (set plan s bed) members + bed_of plan s * stride region members s ≡ place_over plan members + bed * stride region members s
    unfolding place stride
    over_moved [] up = omega arith
    over_moved (a ∷ members) up =
        let (above, rising) = both (every (ltb a) members) up in
        let others = over_moved members rising in
        elim (ℕ_discrete a s) [
          | yes e ↦
              let stay = rw (stride_outside region members s (λ k. omega (arith, ltb-true a s (every_in (ltb a) members above k)))) at others in
              rw (eq-eqb a s e, place_first region (set plan s bed), place_first region plan, e, get_or-set_same plan s bed 0 known) (omega arith)
          | no apart ↦ rw (ne_eqb a s apart, place_first region (set plan s bed), place_first region plan, get_or-set_other plan s a bed 0 apart) (omega arith)
        ]

pub place_moved : PlaceMoved
place_moved region plan t s bed up known = over_moved region plan s bed known t.members up

-- So where the bed goes up by k.
pub place_grown : (region : Region) (plan : Plan) (t : Table) (s k : ℕ) → every_two ltb t.members ≡ true → s < length plan
    → place_in region (set plan s (bed_of plan s + k)) t ≡ place_in region plan t + k * stride region t.members s
place_grown region plan t s k up known =
    omega (arith, rw add-mul at (place_moved region plan t s (bed_of plan s + k) up known))
