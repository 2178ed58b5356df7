-- A row as it is packed for v patients: bed 0 from patient v on, and without that padding it has the beds, where four bits hold each.
use Rattle.std.specs.Prelude.{◌≡◌, ◌≤◌}
use Rattle.std.proofs.Common.{ap, ◌∙◌, mod-eq_of_lt, arith, length-take-le, get_or-take, ◌%◌, ◌<◌, ◌∷◌}
use Rattle.std.proofs.lemmas.List.{length-map}
use Rattle.definitions.specs.Basics.{ℕ, suc, List, [], map, length, take}
use Rattle.definitions.specs.Plans.{Row, bed_of}
use Rattle.partial_rows.specs.Padding.{unpadded, Padded, padded_with, unpadded_with}
use Rattle.packed_rows.specs.Packed.{packable}

-- The row that is packed.
abbrev pub packed_row : ℕ → ℕ → List ℕ → Row
packed_row v cost beds = record { cost = cost; beds = packable v beds }

four_bits : (beds : List ℕ) → ((s : ℕ) → s < length beds → bed_of beds s < 16) → map (λ b. b % 16) beds ≡ beds
four_bits [] low = λ i. []
four_bits (b ∷ beds) low =
    let first : b % 16 ≡ b = mod-eq_of_lt (low 0 (omega arith)) in
    let rest = four_bits beds (λ s h. low (suc s) (omega arith)) in
    λ i. first i ∷ rest i

pub front_long : (v : ℕ) (beds : List ℕ) → v ≤ 32 → length beds ≡ 32 → length (map (λ b. b % 16) (take v beds)) ≡ v
front_long v beds few long = length-map (take v beds) (λ b. b % 16) ∙ length-take-le v beds (omega arith)

module _ (v cost : ℕ) (beds : List ℕ) (few : v ≤ 32) (long : length beds ≡ 32) where
  pub pack_padded : Padded v (packed_row v cost beds)
  pack_padded = padded_with v cost (map (λ b. b % 16) (take v beds)) few (front_long v beds few long)

  pub pack_unpadded : ((s : ℕ) → s < v → bed_of beds s < 16) → unpadded v (packed_row v cost beds) ≡ record { cost = cost; beds = take v beds }
  pack_unpadded low =
      unpadded_with v cost (map (λ b. b % 16) (take v beds)) (front_long v beds few long)
      ∙ ap (λ (l : List ℕ). record { cost = cost; beds = l }) (four_bits (take v beds) (λ s h.
      let less : s < v = omega (arith, length-take-le v beds (omega arith)) in
      rw (get_or-take v beds s 0 less) (low s less)))
