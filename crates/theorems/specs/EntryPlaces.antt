-- The place of a table's entry, kept while beds change: it begins at 0, and one bed moves it by the patient's stride alone.
-- (Theorems that rest on these stand in `proofs/EntryPlaces.antt`.)
use Rattle.std.proofs.Common.{sym, inl, inr, ◌+◌, ◌*◌, ◌<◌, ◌≡◌, ◌∷◌}
use Rattle.std.proofs.Math.Path.{ap}
use Rattle.std.proofs.lemmas.Simd.{map-map}
use native.Mathlib.Omega.{arith}
use borrow.Author.Tests.{ltb-true, eq-eqb, ne_eqb}
use Rattle.std.specs.Prelude.{set}
use Rattle.definitions.specs.Basics.{ℕ, refl, true, List, [], map, length, ltb, product, every, every_two}
use Rattle.definitions.specs.Syntax.{Table, Region, patient_at, bed_counts}
use Rattle.definitions.specs.Plans.{Plan, bed_of, place, place_in, stride}
use Rattle.lists.specs.Tests.{both}
use Rattle.lists.specs.Members.{◌∈◌, here, there, here_or_there, none_in_nil}
use Rattle.lists.specs.Every.{every_in}

-- A patient that is no member moves nothing.
pub stride_outside : (region : Region) (members : List ℕ) (s : ℕ) → (s ∈ members → ⊥) → stride region members s ≡ 0
unfolding stride
stride_outside region [] s out = refl
stride_outside region (a ∷ members) s out =
    rw (ne_eqb a s (λ e. out (here (sym e)))) (stride_outside region members s (λ k. out (there k)))

-- The highest member moves it by one: the entries for its beds lie side by side.
pub stride_highest : (region : Region) (members : List ℕ) (s : ℕ) → every_two ltb members ≡ true → s ∈ members → ((q : ℕ) → q ∈ members → s < q → ⊥) → stride region members s ≡ 1
unfolding stride
stride_highest region [] s up among top = absurd (none_in_nil among)
stride_highest region (a ∷ []) s up among top = elim (here_or_there among) [ inl e ↦ rw (eq-eqb a s (sym e)) refl | inr rest ↦ absurd (none_in_nil rest) ]
stride_highest region (a ∷ b ∷ members) s up among top =
    let (above, rising) = both (every (ltb a) (b ∷ members)) up in
    let higher : (q : ℕ) → q ∈ (b ∷ members) → a < q = (λ q k. ltb-true a q (every_in (ltb a) (b ∷ members) above k)) in
    elim (here_or_there among) [
      | inl e ↦ absurd (top b (there (here refl)) (omega (arith, higher b (here refl))))
      | inr rest ↦ rw (ne_eqb a s (λ e. omega (arith, higher s rest))) (stride_highest region (b ∷ members) s rising rest (λ q k. top q (there k)))
    ]

module _ (region : Region) where
  -- The place that some members' beds have: that of the first, and of the others.
  abbrev pub place_over : Plan → List ℕ → ℕ
  place_over plan members = place (map (λ s. ((patient_at region s).bed_count, bed_of plan s)) members)

  pub place_first : (plan : Plan) (a : ℕ) (members : List ℕ) → place_over plan (a ∷ members) ≡ bed_of plan a * product (bed_counts region members) + place_over plan members
  unfolding place
  place_first plan a members =
      ap (λ counts. bed_of plan a * product counts + place_over plan members) (map-map (λ (pair : ℕ × ℕ). pair.0) (λ s. ((patient_at region s).bed_count, bed_of plan s)) members)

  over_none : (members : List ℕ) → place_over [] members ≡ 0
  unfolding place
  over_none [] = refl
  over_none (a ∷ members) = omega (arith, place_first [] a members, over_none members)

-- Before any patient has a bed the place is 0.
pub place_none : (region : Region) (t : Table) → place_in region [] t ≡ 0
place_none region t = over_none region t.members

-- One bed set: the place moves by the stride alone, and by nothing where the patient is no member.
abbrev pub PlaceMoved : Type 0
PlaceMoved = (region : Region) (plan : Plan) (t : Table) (s bed : ℕ) → every_two ltb t.members ≡ true → s < length plan
    → place_in region (set plan s bed) t + bed_of plan s * stride region t.members s ≡ place_in region plan t + bed * stride region t.members s
