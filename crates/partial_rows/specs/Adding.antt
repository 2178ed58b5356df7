-- Beds added place by place, and rows added: costs and beds.
use Rattle.std.proofs.Common.{ap₂, ◌∙◌, inl, inr, arith, add-zero, add_comm, add_assoc, ◌+◌, ◌<◌, ◌≡◌, ◌∷◌}
use Rattle.std.specs.Prelude.{set, ◌≤◌}
use Rattle.definitions.specs.Basics.{ℕ, zero, suc, refl, List, [], length, replicate}
use Rattle.definitions.specs.Plans.{bed_of, Row}
use Rattle.ranking.specs.Orders.{ListLt, list_irrefl}

-- A place that a list does not have counts as 0.
abbrev pub add_beds : List ℕ → List ℕ → List ℕ
add_beds [] ys = ys
add_beds (x ∷ xs) [] = x ∷ xs
add_beds (x ∷ xs) (y ∷ ys) = (x + y) ∷ add_beds xs ys

abbrev pub add_rows : Row → Row → Row
add_rows v w = record { cost = v.cost + w.cost; beds = add_beds v.beds w.beds }

pub add_at : (xs ys : List ℕ) (s : ℕ) → bed_of (add_beds xs ys) s ≡ bed_of xs s + bed_of ys s
add_at [] ys s = omega arith
add_at (x ∷ xs) [] s = omega arith
add_at (x ∷ xs) (y ∷ ys) zero = refl
add_at (x ∷ xs) (y ∷ ys) (suc s) = add_at xs ys s

pub add_length : (xs ys : List ℕ) → length xs ≡ length ys → length (add_beds xs ys) ≡ length ys
add_length [] ys e = refl
add_length (x ∷ xs) [] e = e
add_length (x ∷ xs) (y ∷ ys) e = omega (arith, add_length xs ys (omega arith))

pub add_beds_assoc : (xs ys zs : List ℕ) → add_beds (add_beds xs ys) zs ≡ add_beds xs (add_beds ys zs)
add_beds_assoc [] ys zs = refl
add_beds_assoc (x ∷ xs) [] zs = refl
add_beds_assoc (x ∷ xs) (y ∷ ys) [] = refl
add_beds_assoc (x ∷ xs) (y ∷ ys) (z ∷ zs) = ap₂ {C = List ℕ} (λ a l. a ∷ l) (add_assoc x y z) (add_beds_assoc xs ys zs)

add_beds_comm : (xs ys : List ℕ) → add_beds xs ys ≡ add_beds ys xs
add_beds_comm [] [] = refl
add_beds_comm [] (y ∷ ys) = refl
add_beds_comm (x ∷ xs) [] = refl
add_beds_comm (x ∷ xs) (y ∷ ys) = ap₂ {C = List ℕ} (λ a l. a ∷ l) (add_comm x y) (add_beds_comm xs ys)

-- Zeros change nothing; one bed added where there is 0 is set there.
pub add_zeros_right : (xs : List ℕ) (n : ℕ) → n ≤ length xs → add_beds xs (replicate n 0) ≡ xs
add_zeros_right [] zero h = refl
add_zeros_right [] (suc n) h = absurd (omega arith)
add_zeros_right (x ∷ xs) zero h = refl
add_zeros_right (x ∷ xs) (suc n) h = ap₂ {C = List ℕ} (λ a l. a ∷ l) (add-zero x) (add_zeros_right xs n (omega arith))

pub add_zeros : (n : ℕ) (xs : List ℕ) → n ≤ length xs → add_beds (replicate n 0) xs ≡ xs
add_zeros n xs h = add_beds_comm (replicate n 0) xs ∙ add_zeros_right xs n h

pub add_one_bed : (xs : List ℕ) (n s b : ℕ) → n ≤ length xs → s < n → bed_of xs s ≡ 0 → add_beds xs (set (replicate n 0) s b) ≡ set xs s b
add_one_bed [] n s b h k e = absurd (omega arith)
add_one_bed (x ∷ xs) zero s b h k e = absurd (omega arith)
add_one_bed (x ∷ xs) (suc n) zero b h k e = ap₂ {C = List ℕ} (λ a l. a ∷ l) (omega arith) (add_zeros_right xs n (omega arith))
add_one_bed (x ∷ xs) (suc n) (suc s) b h k e = ap₂ {C = List ℕ} (λ a l. a ∷ l) (add-zero x) (add_one_bed xs n s b (omega arith) (omega arith) e)

-- The same beds added to two lists of one length leave their order.
pub add_rising : (xs ys zs : List ℕ) → length xs ≡ length ys → ListLt xs ys → ListLt (add_beds xs zs) (add_beds ys zs)
add_rising [] [] zs e h = absurd h
add_rising [] (y ∷ ys) zs e h = absurd (omega arith)
add_rising (x ∷ xs) [] zs e h = absurd h
add_rising (x ∷ xs) (y ∷ ys) [] e h = h
add_rising (x ∷ xs) (y ∷ ys) (z ∷ zs) e (inl h) = inl (omega arith)
add_rising (x ∷ xs) (y ∷ ys) (z ∷ zs) e (inr h) = inr (omega (arith, h.0), add_rising xs ys zs (omega arith) h.1)

pub add_rising_right : (xs ys zs : List ℕ) → length ys ≡ length zs → ListLt ys zs → ListLt (add_beds xs ys) (add_beds xs zs)
add_rising_right xs ys zs e h = rw (add_beds_comm xs ys, add_beds_comm xs zs) (add_rising ys zs xs e h)

-- Adding to beds makes nothing that comes before them.
pub add_not_before : (xs ys : List ℕ) → ListLt (add_beds xs ys) xs → ⊥
add_not_before [] [] h = h
add_not_before [] (y ∷ ys) h = h
add_not_before (x ∷ xs) [] h = list_irrefl (x ∷ xs) h
add_not_before (x ∷ xs) (y ∷ ys) (inl h) = omega arith
add_not_before (x ∷ xs) (y ∷ ys) (inr h) = add_not_before xs ys h.1

pub add_rows_assoc : (u v w : Row) → add_rows (add_rows u v) w ≡ add_rows u (add_rows v w)
add_rows_assoc u v w = λ i. record { cost = add_assoc u.cost v.cost w.cost i; beds = add_beds_assoc u.beds v.beds w.beds i }
