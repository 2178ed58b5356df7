-- The place of beds among all of their members', as a sum of strides.
use Rattle.std.proofs.Common.{sym, ap, ap₂, ◌∙◌, one-mul, mul-zero, mul-le-mul_right, arith, ne_eqb, ◌+◌, ◌-◌, ◌*◌, ◌<◌, ◌≡◌, ◌∷◌}
use Rattle.std.specs.Prelude.{◌≤◌}
use Rattle.definitions.specs.Basics.{ℕ, zero, suc, refl, cond, List, [], map, length, get_or, eqb, numbers_from, below, sum, product}
use Rattle.definitions.specs.Plans.{place}

-- The stride of the member at a place: how far the table's place moves with its bed. Past the last member it is 0.
unfoldable pub stride_of : (ℕ → ℕ) → List ℕ → ℕ → ℕ
stride_of count [] j = 0
stride_of count (s ∷ members) zero = product (map count members)
stride_of count (s ∷ members) (suc j) = stride_of count members j

-- The stride of a member behind which another one comes, else 0.
abbrev pub low_of : (ℕ → ℕ) → List ℕ → ℕ → ℕ
low_of count members j = cond (eqb (stride_of count members (suc j)) 0) 0 (stride_of count members j)

-- The place of some members' beds.
abbrev pub place_of : (ℕ → ℕ) → (ℕ → ℕ) → List ℕ → ℕ
place_of count bed members = place (map (λ s. (count s, bed s)) members)

counts_of : (count bed : ℕ → ℕ) (members : List ℕ) → map (λ (pair : ℕ × ℕ). pair.0) (map (λ s. (count s, bed s)) members) ≡ map count members
counts_of count bed [] = refl
counts_of count bed (s ∷ members) = ap (λ l. count s ∷ l) (counts_of count bed members)

place_cons : (count bed : ℕ → ℕ) (s : ℕ) (members : List ℕ) → place_of count bed (s ∷ members) ≡ bed s * product (map count members) + place_of count bed members
unfolding place
place_cons count bed s members = ap (λ l. bed s * product l + place_of count bed members) (counts_of count bed members)

-- The strides depend only on the members' counts.
counts_same : (count other : ℕ → ℕ) (members : List ℕ) → ((j : ℕ) → j < length members → count (get_or members j 0) ≡ other (get_or members j 0))
    → map count members ≡ map other members
counts_same count other [] same = refl
counts_same count other (s ∷ members) same =
    ap₂ (λ n ns. n ∷ ns) (same 0 (omega arith)) (counts_same count other members (λ j h. same (suc j) (omega arith)))

pub stride_same : (count other : ℕ → ℕ) (members : List ℕ) → ((j : ℕ) → j < length members → count (get_or members j 0) ≡ other (get_or members j 0))
    → (j : ℕ) → stride_of count members j ≡ stride_of other members j
unfolding stride_of
stride_same count other [] same j = refl
stride_same count other (s ∷ members) same zero = ap product (counts_same count other members (λ j h. same (suc j) (omega arith)))
stride_same count other (s ∷ members) same (suc j) = stride_same count other members (λ i h. same (suc i) (omega arith)) j

-- Past the last member there are no strides.
pub stride_past : (count : ℕ → ℕ) (members : List ℕ) (j : ℕ) → length members ≤ j → stride_of count members j ≡ 0
unfolding stride_of
stride_past count [] j h = refl
stride_past count (s ∷ members) zero h = absurd (omega arith)
stride_past count (s ∷ members) (suc j) h = stride_past count members j (omega arith)

-- Where no count is 0, a product of counts is at most that with one more, and not 0.
pub product_more : (count : ℕ → ℕ) (s : ℕ) (members : List ℕ) → 1 ≤ count s → product (map count members) ≤ count s * product (map count members)
product_more count s members h =
    let rest : 1 * product (map count members) ≤ count s * product (map count members) = mul-le-mul_right (product (map count members)) h in
    omega (arith, one-mul (product (map count members)))

product_some : (count : ℕ → ℕ) (members : List ℕ) → ((j : ℕ) → j < length members → 1 ≤ count (get_or members j 0)) → 1 ≤ product (map count members)
product_some count [] each = omega arith
product_some count (s ∷ members) each = omega (arith, product_more count s members (each 0 (omega arith)), product_some count members (λ j h. each (suc j) (omega arith)))

-- A sum over places, the first apart.
sum_shift : (f : ℕ → ℕ) (a n : ℕ) → sum (map f (numbers_from (suc a) n)) ≡ sum (map (λ j. f (suc j)) (numbers_from a n))
sum_shift f a zero = refl
sum_shift f a (suc n) = ap (λ m. f (suc a) + m) (sum_shift f (suc a) n)

sum_zeros : (f : ℕ → ℕ) → ((j : ℕ) → f j ≡ 0) → (a n : ℕ) → sum (map f (numbers_from a n)) ≡ 0
sum_zeros f all a zero = refl
sum_zeros f all a (suc n) = ap₂ (λ x y. x + y) (all a) (sum_zeros f all (suc a) n)

-- A place is the sum of beds times strides, over any number of places that has the members.
pub place_strides : (count bed : ℕ → ℕ) (members : List ℕ) (n : ℕ) → length members ≤ n
    → place_of count bed members ≡ sum (map (λ j. bed (get_or members j 0) * stride_of count members j) (below n))
unfolding place stride_of
place_strides count bed [] n h = sym (sum_zeros (λ j. bed 0 * 0) (λ j. omega arith) 0 n)
place_strides count bed (s ∷ members) zero h = absurd (omega arith)
place_strides count bed (s ∷ members) (suc n) h =
    place_cons count bed s members
    ∙ ap (λ m. bed s * product (map count members) + m)
    (place_strides count bed members n (omega arith) ∙ sym (sum_shift (λ j. bed (get_or (s ∷ members) j 0) * stride_of count (s ∷ members) j) 0 n))

-- It is what all members but the last make, and the last one's bed.
pub place_low : (count bed : ℕ → ℕ) (members : List ℕ) → 0 < length members → ((j : ℕ) → j < length members → 1 ≤ count (get_or members j 0)) → (n : ℕ) → length members ≤ suc n
    → place_of count bed members ≡ sum (map (λ j. bed (get_or members j 0) * low_of count members j) (below n)) + bed (get_or members (length members - 1) 0)
unfolding place stride_of
place_low count bed [] some each n h = absurd (omega arith)
place_low count bed (s ∷ []) some each n h =
    let nothing = sum_zeros (λ j. bed (get_or (s ∷ []) j 0) * 0) (λ j. mul-zero (bed (get_or (s ∷ []) j 0))) 0 n in
    omega (arith, place_cons count bed s [], nothing)
place_low count bed (s ∷ q ∷ members) some each zero h = absurd (omega arith)
place_low count bed (s ∷ q ∷ members) some each (suc n) h =
    let behind = ne_eqb (product (map count members)) 0 (λ e. omega (arith, product_some count members (λ j l. each (suc (suc j)) (omega arith)))) in
    let first = ap (λ b. bed s * cond b 0 (product (map count (q ∷ members)))) behind in
    let shift = sum_shift (λ j. bed (get_or (s ∷ q ∷ members) j 0) * low_of count (s ∷ q ∷ members) j) 0 n in
    let last : suc (suc (length members)) - 1 ≡ suc (suc (length members) - 1) = omega arith in
    let end = ap (λ j. bed (get_or (s ∷ q ∷ members) j 0)) last in
    omega (arith, place_cons count bed s (q ∷ members), place_low count bed (q ∷ members) (omega arith) (λ j l. each (suc j) (omega arith)) n (omega arith), first, shift, end)

-- Where each bed is below its count, the place is below the product of the counts.
pub place_bound : (count bed : ℕ → ℕ) (members : List ℕ) → ((j : ℕ) → j < length members → bed (get_or members j 0) < count (get_or members j 0))
    → place_of count bed members < product (map count members)
unfolding place
place_bound count bed [] fits = omega arith
place_bound count bed (s ∷ members) fits =
    let rest : place_of count bed members < product (map count members) = place_bound count bed members (λ j h. fits (suc j) (omega arith)) in
    let more : suc (bed s) * product (map count members) ≤ count s * product (map count members) = mul-le-mul_right (product (map count members)) (fits 0 (omega arith)) in
    rw (place_cons count bed s members) (omega arith)
