-- Packed beds: how many there are, how they compare, add and are packed one by one.
use Rattle.std.specs.Prelude.{◌≡◌, refl}
use Rattle.std.proofs.Common.{sym, ap, ap₂, ◌∙◌, arith, length-append, ◌+◌, ◌*◌, ◌/◌, ◌%◌, ◌^◌, ◌<◌, ◌∷◌, ◌++◌}
use Rattle.definitions.specs.Basics.{ℕ, zero, suc, compare, Ordering}
use Rattle.definitions.specs.Basics.{eqb, List, [], map, flat_map, length, get_or, numbers_from, same}
use Rattle.definitions.specs.Plans.{bed_of, then_by, compare_beds}
use Rattle.ranking.specs.Orders.{View, before, equal, after, ℕ-view}
use Rattle.partial_rows.specs.Adding.{add_beds}
use Rattle.partial_rows.specs.Appending.{then_eq, compare_append, is_tie, same_tie, add_append}
use Rattle.packed_rows.specs.Packed.{beds_of_word, packed_beds}
use Rattle.packed_rows.specs.Numbers.{less, more, alike}

-- Eight beds of a list, from one on.
abbrev pub beds_from : List ℕ → ℕ → List ℕ
beds_from beds first = map (bed_of beds) (numbers_from first 8)

-- How many.
pub word_long : (k w : ℕ) → length (beds_of_word k w) ≡ suc k
unfolding beds_of_word
word_long zero w = refl
word_long (suc k) w = length-append (beds_of_word k (w / 16)) (w % 16 ∷ []) ∙ omega (arith, word_long k (w / 16))

pub packed_more : (w : ℕ) (words : List ℕ) → packed_beds (w ∷ words) ≡ beds_of_word 7 w ++ packed_beds words
unfolding packed_beds flat_map
packed_more w words = refl

pub packed_none : packed_beds [] ≡ []
unfolding packed_beds flat_map
packed_none = refl

pub packed_length : (words : List ℕ) → length (packed_beds words) ≡ length words * 8
packed_length [] = ap length packed_none
packed_length (w ∷ words) = ap length (packed_more w words) ∙ length-append (beds_of_word 7 w) (packed_beds words) ∙ omega (arith, word_long 7 w, packed_length words)

pub packed_long : (words : List ℕ) → length words ≡ 4 → length (packed_beds words) ≡ 32
packed_long words h = omega (arith, packed_length words)

-- Their order is that of the words.
compare_digits : (w z : ℕ) → then_by (compare (w / 16) (z / 16)) (compare (w % 16) (z % 16)) ≡ compare w z
compare_digits w z = go (ℕ-view (w / 16) (z / 16)) (ℕ-view (w % 16) (z % 16))
  where
    go : {o p : Ordering} → View ◌<◌ (w / 16) (z / 16) o → View ◌<◌ (w % 16) (z % 16) p → then_by o p ≡ compare w z
    go (before t) _ = sym (less w z (omega arith))
    go (after t) _ = sym (more w z (omega arith))
    go (equal e) (before t) = sym (less w z (omega arith))
    go (equal e) (equal f) = sym (alike w z (omega arith) (omega arith))
    go (equal e) (after t) = sym (more w z (omega arith))

pub word_order : (k w z : ℕ) → compare_beds (beds_of_word k w) (beds_of_word k z) ≡ compare w z
unfolding beds_of_word
word_order zero w z = then_eq (compare w z)
word_order (suc k) w z =
    compare_append (beds_of_word k (w / 16)) (beds_of_word k (z / 16)) (w % 16 ∷ []) (z % 16 ∷ []) (word_long k (w / 16) ∙ sym (word_long k (z / 16)))
    ∙ ap₂ then_by (word_order k (w / 16) (z / 16)) (then_eq (compare (w % 16) (z % 16))) ∙ compare_digits w z

pub packed_order : (ws zs : List ℕ) → length ws ≡ length zs → compare_beds (packed_beds ws) (packed_beds zs) ≡ compare_beds ws zs
packed_order [] [] e = ap₂ compare_beds packed_none packed_none
packed_order [] (z ∷ zs) e = absurd (omega arith)
packed_order (w ∷ ws) [] e = absurd (omega arith)
packed_order (w ∷ ws) (z ∷ zs) e =
    ap₂ compare_beds (packed_more w ws) (packed_more z zs)
    ∙ compare_append (beds_of_word 7 w) (beds_of_word 7 z) (packed_beds ws) (packed_beds zs) (word_long 7 w ∙ sym (word_long 7 z))
    ∙ ap₂ then_by (word_order 7 w z) (packed_order ws zs (omega arith))

-- They are the same where their comparison is a tie.
pub packed_same : (ws zs : List ℕ) → length ws ≡ length zs → same eqb (packed_beds ws) (packed_beds zs) ≡ same eqb ws zs
packed_same ws zs e = same_tie (packed_beds ws) (packed_beds zs) ∙ ap is_tie (packed_order ws zs e) ∙ sym (same_tie ws zs)

-- Sums: where each two beds' is below 16, the words' holds them.
abbrev pub Small : List ℕ → Type 0
Small beds = (s : ℕ) → bed_of beds s < 16

small_first : (xs ys : List ℕ) → Small (xs ++ ys) → Small xs
small_first [] ys h s = omega arith
small_first (x ∷ xs) ys h zero = h 0
small_first (x ∷ xs) ys h (suc s) = small_first xs ys (λ i. h (suc i)) s

small_second : (xs ys : List ℕ) → Small (xs ++ ys) → Small ys
small_second [] ys h = h
small_second (x ∷ xs) ys h = small_second xs ys (λ i. h (suc i))

-- The sum of two words that hold one more than k beds.
pub record Sum (k w z : ℕ) : Type 0 where
  pub fits : w + z < 16 ^ suc k
  pub beds : beds_of_word k (w + z) ≡ add_beds (beds_of_word k w) (beds_of_word k z)

pub word_sum : (k w z : ℕ) → Small (add_beds (beds_of_word k w) (beds_of_word k z)) → Sum k w z
unfolding beds_of_word
word_sum zero w z h = record { fits = h 0; beds = refl }
word_sum (suc k) w z h =
    let a = beds_of_word k (w / 16) in
    let b = beds_of_word k (z / 16) in
    let apart = add_append a b (w % 16 ∷ []) (z % 16 ∷ []) (word_long k (w / 16) ∙ sym (word_long k (z / 16))) in
    let small : Small (add_beds a b ++ ((w % 16 + z % 16) ∷ [])) = rw apart at h in
    let first = word_sum k (w / 16) (z / 16) (small_first (add_beds a b) ((w % 16 + z % 16) ∷ []) small) in
    let last : w % 16 + z % 16 < 16 = small_second (add_beds a b) ((w % 16 + z % 16) ∷ []) small 0 in
    let high : (w + z) / 16 ≡ w / 16 + z / 16 = omega arith in
    let low : (w + z) % 16 ≡ w % 16 + z % 16 = omega arith in
    record {
      fits = omega (arith, first.fits);
      beds = rw (high, low) (ap (λ (l : List ℕ). l ++ ((w % 16 + z % 16) ∷ [])) first.beds ∙ sym apart);
    }

-- The sums of words that hold eight beds each.
pub record Sums (ws zs : List ℕ) : Type 0 where
  pub fits : (j : ℕ) → get_or ws j 0 + get_or zs j 0 < 4_294_967_296
  pub beds : packed_beds (add_beds ws zs) ≡ add_beds (packed_beds ws) (packed_beds zs)

pub packed_sums : (ws zs : List ℕ) → length ws ≡ length zs → Small (add_beds (packed_beds ws) (packed_beds zs)) → Sums ws zs
packed_sums [] [] e h = record { fits = λ j. omega arith; beds = packed_none ∙ sym (ap₂ add_beds packed_none packed_none) }
packed_sums [] (z ∷ zs) e h = absurd (omega arith)
packed_sums (w ∷ ws) [] e h = absurd (omega arith)
packed_sums (w ∷ ws) (z ∷ zs) e h =
    let a = add_beds (beds_of_word 7 w) (beds_of_word 7 z) in
    let b = add_beds (packed_beds ws) (packed_beds zs) in
    let apart : add_beds (packed_beds (w ∷ ws)) (packed_beds (z ∷ zs)) ≡ a ++ b =
    ap₂ add_beds (packed_more w ws) (packed_more z zs) ∙ add_append (beds_of_word 7 w) (beds_of_word 7 z) (packed_beds ws) (packed_beds zs) (word_long 7 w ∙ sym (word_long 7 z)) in
    let small : Small (a ++ b) = rw apart at h in
    let first = word_sum 7 w z (small_first a b small) in
    let rest = packed_sums ws zs (omega arith) (small_second a b small) in
    record {
      fits = λ j. fits_at j first rest;
      beds = packed_more (w + z) (add_beds ws zs) ∙ ap₂ ◌++◌ first.beds rest.beds ∙ sym apart;
    }
  where
    fits_at : (j : ℕ) → Sum 7 w z → Sums ws zs → get_or (w ∷ ws) j 0 + get_or (z ∷ zs) j 0 < 4_294_967_296
    fits_at zero first rest = first.fits
    fits_at (suc j) first rest = rest.fits j

-- Packing: one more bed behind the others.
pub push_bed : (k w b : ℕ) → b < 16 → beds_of_word (suc k) (w * 16 + b) ≡ beds_of_word k w ++ (b ∷ [])
unfolding beds_of_word
push_bed k w b h =
    let high : (w * 16 + b) / 16 ≡ w = omega arith in
    let low : (w * 16 + b) % 16 ≡ b = omega arith in
    rw (high, low)
