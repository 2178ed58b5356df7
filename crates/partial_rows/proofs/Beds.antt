-- Beds for a set of patients: of none, of two parts, and the beds that a plan has in a set.
use Rattle.std.proofs.Common.{arith, ◌<◌, ◌≡◌, ◌∷◌}
use Rattle.std.specs.Prelude.{◌↔◌}
use Rattle.definitions.specs.Basics.{ℕ, zero, suc, refl, true, List, [], map, length, get_or}
use Rattle.definitions.specs.Syntax.{Patient, Region, patient_at}
use Rattle.definitions.specs.Plans.{bed_of}
use Rattle.theorems.specs.List.{Fits}
use Rattle.partial_rows.specs.Sets.{Patients}
use Rattle.partial_rows.specs.Rows.{BedsOf}
use Rattle.partial_rows.specs.Beds.{inside}

-- Beds for all patients are a plan's.
pub fits_beds : (region : Region) (D : Patients) (beds : List ℕ) → ((s : ℕ) → s < length region.patients → D s ≡ true)
    → BedsOf region D beds ↔ Fits (map (λ p. p.bed_count) region.patients) beds
unfolding patient_at
fits_beds region D beds all = (
  λ b. (by_places_lem region.patients _ beds).0 (b.long, λ s h. inside b s h (all s h)),
  λ f. let (l, g) = (by_places_lem region.patients _ beds).1 f in record { long = l; each = λ s h. rw (all s h) (g s h) },
)
  where
    by_places_lem : (ps : List Patient) (d : Patient) (beds : List ℕ)
        → ((length beds ≡ length ps) × ((s : ℕ) → s < length ps → bed_of beds s < (get_or ps s d).bed_count)) ↔ Fits (map (λ p. p.bed_count) ps) beds
    by_places_lem [] d [] = (λ h. tt, λ f. (refl, λ s h. absurd (omega arith)))
    by_places_lem [] d (x ∷ beds) = (λ h. omega (arith, h.0), λ f. absurd f)
    by_places_lem (p ∷ ps) d [] = (λ h. omega (arith, h.0), λ f. absurd f)
    by_places_lem (p ∷ ps) d (x ∷ beds) = let ih = by_places_lem ps d beds in (
      λ h. (h.1 zero (omega arith), ih.0 (omega (arith, h.0), λ s k. h.1 (suc s) (omega arith))),
      λ f. let (l, g) = ih.1 f.1 in (omega arith, at f.0 g),
    )
      where
        at : x < p.bed_count → ((s : ℕ) → s < length ps → bed_of beds s < (get_or ps s d).bed_count)
            → (s : ℕ) → s < suc (length ps) → bed_of (x ∷ beds) s < (get_or (p ∷ ps) s d).bed_count
        at h g zero k = h
        at h g (suc s) k = g s (omega arith)
