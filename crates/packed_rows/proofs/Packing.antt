-- Beds packed one by one into a word, and the words of all.
use Rattle.std.proofs.Common.{arith, sym, ap, ◌∙◌, add-one, pow-suc, length-append, lit<, ◌≡◌, ◌+◌, ◌-◌, ◌*◌, ◌%◌, ◌^◌, ◌<◌, ◌≤◌, ◌∷◌, ◌++◌}
use Rattle.std.proofs.lemmas.List.{length-replicate}
use Rattle.std.proofs.Math.Nat.{pow-le-pow_right}
use Rattle.definitions.specs.Basics.{ℕ, zero, suc, List, [], map, flat_map, length, take, replicate, below, numbers_from}
use Rattle.definitions.specs.Plans.{bed_of}
use Rattle.lists.specs.Below.{by_number}
use Rattle.packed_rows.specs.Packed.{beds_of_word, packed_beds, packable}
use Rattle.packed_rows.specs.Laws.{beds_from, push_bed}
use Rattle.packed_rows.specs.Packing.{front_long}

-- The beds to be packed.
module _ (v : ℕ) (beds : List ℕ) (few : v ≤ 32) (long : length beds ≡ 32) where
  packable_long : length (packable v beds) ≡ 32
  packable_long = length-append (map (λ b. b % 16) (take v beds)) (replicate (32 - v) 0) ∙ omega (arith, front_long v beds few long, length-replicate {A = ℕ} (32 - v) 0)

  pub all_packed : (w x y z : ℕ) → beds_of_word 7 w ≡ beds_from (packable v beds) 0 → beds_of_word 7 x ≡ beds_from (packable v beds) 8
      → beds_of_word 7 y ≡ beds_from (packable v beds) 16 → beds_of_word 7 z ≡ beds_from (packable v beds) 24 → packed_beds (w ∷ x ∷ y ∷ z ∷ []) ≡ packable v beds
  unfolding packed_beds flat_map
  all_packed w x y z a b c d =
      let whole : map (bed_of (packable v beds)) (below 32) ≡ packable v beds = rw packable_long at (by_number (packable v beds) 0) in
      rw (a, b, c, d) whole

-- The word of k beds, from one on.
pub record Packed (beds : List ℕ) (first k word : ℕ) : Type 0 where
  pub fits : word < 16 ^ k
  pub held : (j : ℕ) → k ≡ suc j → beds_of_word j word ≡ map (bed_of beds) (numbers_from first (suc j))

pub none_packed : (beds : List ℕ) (first : ℕ) → Packed beds first 0 0
none_packed beds first = record { fits = lit< tt; held = λ j e. absurd (omega arith) }

one_more : (beds : List ℕ) (a n : ℕ) → map (bed_of beds) (numbers_from a (suc n)) ≡ map (bed_of beds) (numbers_from a n) ++ (bed_of beds (a + n) ∷ [])
one_more beds a zero = let e : a + 0 ≡ a = omega arith in rw e
one_more beds a (suc n) = let e : suc a + n ≡ a + suc n = omega arith in ap (λ (l : List ℕ). bed_of beds a ∷ l) (one_more beds (suc a) n ∙ rw e)

pub one_packed : (beds : List ℕ) (first k word b : ℕ) → Packed beds first k word → b ≡ bed_of beds (first + k) → b < 16 → Packed beds first (k + 1) (word * 16 + b)
unfolding beds_of_word
one_packed beds first k word b p is small = record {
  fits = rw add-one (omega (arith, p.fits, pow-suc 16 k));
  held = λ j e. at_number j (omega arith);
}
  where
    at_number : (j : ℕ) → k ≡ j → beds_of_word j (word * 16 + b) ≡ map (bed_of beds) (numbers_from first (suc j))
    at_number zero e =
        let empty : word ≡ 0 = omega (arith, rw e at p.fits) in
        let place : first + k ≡ first = omega arith in
        let bed : b ≡ bed_of beds first = rw place at is in
        let alone : 0 * 16 + b ≡ b = omega arith in
        rw (empty, alone) (ap (λ (c : ℕ). c ∷ []) bed)
    at_number (suc i) e =
        push_bed i word b small
        ∙ ap (λ (l : List ℕ). l ++ (b ∷ [])) (p.held i e)
        ∙ ap (λ (c : ℕ). map (bed_of beds) (numbers_from first (suc i)) ++ (c ∷ [])) (is ∙ ap (λ (n : ℕ). bed_of beds (first + n)) e)
        ∙ sym (one_more beds first (suc i))

-- A word of fewer than eight beds has room for one more.
pub has_room : (k word b : ℕ) → k < 8 → word < 16 ^ k → b < 16 → word * 16 + b < 4_294_967_296
has_room k word b few fits small =
    let most : 16 ^ k ≤ 16 ^ 7 = pow-le-pow_right {n = 16} (omega arith) {i = k} {j = 7} (omega arith) in
    omega (arith, most)
