-- A loop that adds up what a function gives at each place below n, as the beds of a term's members.
use mathlib.Core.Path.{◌≡◌, sym, ap, ap₂, ◌∙◌}
use native.Mathlib.Omega.{arith}
use native.Mathlib.Nat.{add_assoc, add-zero, mul-le-mul}
use Rattle.std.specs.Prelude.{◌+◌, ◌*◌, ◌<◌}
use Rattle.definitions.specs.Basics.{ℕ, List, map, sum, below}
use Rattle.definitions.specs.Plans.{bed_of}
use Rattle.bucket_words.specs.Words.{start_at, member_at, stride_at}
use Rattle.buckets.specs.Terms.{place_at}
use Rattle.lists.specs.Loops.{places_from, places_all, places_next, places_done}
use Prim.Native.Nat.{◌≤◌}
use Rattle.pricing.specs.Pricing.{Reads}
use Rattle.bucket_words.specs.declared.TableTerm.{TableTerm}

-- What a member's bed adds to the place of a term's entry.
abbrev bed_at : List TableTerm → ℕ → List ℕ → ℕ → ℕ
bed_at terms k beds j = bed_of beds (member_at terms k j) * stride_at terms k j

module _ (f : ℕ → ℕ) (n : ℕ) where
  -- What is left to add at place i.
  unfoldable pub left_from : ℕ → ℕ
  left_from i = sum (map f (places_from n i))

  left_all : left_from 0 ≡ sum (map f (below n))
  unfolding left_from
  left_all = ap (λ l. sum (map f l)) (places_all n)

  left_next : (x i : ℕ) → i < n → x + f i + left_from (i + 1) ≡ x + left_from i
  unfolding left_from
  left_next x i h = add_assoc x (f i) _ ∙ ap (λ l. x + sum (map f l)) (sym (places_next n i h))

  left_done : (x i : ℕ) → n ≤ i → x + left_from i ≡ x
  unfolding left_from
  left_done x i h = ap (λ l. x + sum (map f l)) (places_done n i h) ∙ add-zero x

-- Where the loop over a term's members stands: the place so far, and what the members that are left add to it.
pub record Placing (terms : List TableTerm) (k : ℕ) (beds : List ℕ) (place j : ℕ) : Type 0 where
  pub most : place ≤ 4096 + j * 1_048_576
  pub left : place + left_from (bed_at terms k beds) 4 j ≡ place_at terms k beds

module _ {terms : List TableTerm} {k : ℕ} {beds : List ℕ} (reads : Reads terms k) where
  pub placing_start : {place : ℕ} → place ≡ start_at terms k → Placing terms k beds place 0
  unfolding place_at
  placing_start is = record { most = omega (arith, is, reads.starts); left = ap₂ (λ n m. n + m) is (left_all (bed_at terms k beds) 4) }

  -- One more member's bed, as it was read.
  module _ {place j s bed stride : ℕ} (so : Placing terms k beds place j) (more : j < 4) (is_member : s ≡ member_at terms k j) (is_bed : bed ≡ bed_of beds s) (low : bed < 256)
      (is_stride : stride ≡ stride_at terms k j) where
    pub bed_most : bed * stride ≤ 1_048_576
    bed_most =
        let small : bed ≤ 256 = omega arith in
        let near : stride ≤ 4096 = omega (arith, is_stride, reads.near j more) in
        mul-le-mul small near

    pub placing_next : Placing terms k beds (place + bed * stride) (j + 1)
    placing_next = record {
      most = omega (arith, so.most, bed_most);
      left = ap (λ n. place + n + left_from (bed_at terms k beds) 4 (j + 1)) (ap₂ (λ b n. b * n) (is_bed ∙ ap (bed_of beds) is_member) is_stride)
          ∙ left_next (bed_at terms k beds) 4 place j more ∙ so.left;
    }

  pub placing_done : {place j : ℕ} → 4 ≤ j → Placing terms k beds place j → place ≡ place_at terms k beds
  placing_done {place} {j} end so = sym (left_done (bed_at terms k beds) 4 place j end) ∙ so.left
