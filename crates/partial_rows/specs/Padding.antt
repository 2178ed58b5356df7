-- Rows of 32 beds in which those who are no patients have bed 0, and the same rows without that padding.
use Rattle.std.proofs.Common.{sym, ap, ap₂, ◌∙◌, arith, length-append, take-append-drop, length-take-le, take_at, drop_at, get_or-drop, ◌+◌, ◌-◌, ◌≡◌, ◌∷◌, ◌++◌}
use Rattle.std.specs.Prelude.{drop, ◌≤◌}
use Rattle.std.proofs.lemmas.List.{length-replicate}
use Rattle.definitions.specs.Basics.{ℕ, zero, suc, compare, Ordering, ordering_eq, refl}
use Rattle.definitions.specs.Basics.{List, [], length, take, replicate, eqb, same}
use Rattle.definitions.specs.Plans.{bed_of, then_by, compare_beds, Row, compare_rows}
use Rattle.definitions.specs.Sheets.{same_beds}
use Rattle.ranking.specs.Orders.{View, before, equal, after, ListLt, list_view, list_irrefl}
use Rattle.partial_rows.specs.Adding.{add_beds, add_rows, add_length, add_zeros}
use Rattle.partial_rows.specs.Appending.{then_eq, compare_append, is_tie, same_tie}

-- A row's beds of the first v patients.
abbrev pub unpadded : ℕ → Row → Row
unpadded v z = record { cost = z.cost; beds = take v z.beds }

-- A row of 32 beds, with bed 0 from patient v on.
pub record Padded (v : ℕ) (z : Row) : Type 0 where
  pub long : length z.beds ≡ 32
  pub rest : drop v z.beds ≡ replicate (32 - v) 0

-- ---- lists of beds

-- What stands behind two lists of one length, the same behind both, decides nothing.
compare_self : (r : List ℕ) → compare_beds r r ≡ ordering_eq
compare_self r = go (list_view r r)
  where
    go : {o : Ordering} → View ListLt r r o → o ≡ ordering_eq
    go (before t) = absurd (list_irrefl r t)
    go (equal e) = refl
    go (after t) = absurd (list_irrefl r t)

compare_front : (xs ys r : List ℕ) → length xs ≡ length ys → compare_beds xs ys ≡ compare_beds (xs ++ r) (ys ++ r)
compare_front xs ys r e = sym (compare_append xs ys r r e ∙ ap (then_by (compare_beds xs ys)) (compare_self r) ∙ then_eq (compare_beds xs ys))

same_front : (xs ys r : List ℕ) → length xs ≡ length ys → same eqb xs ys ≡ same eqb (xs ++ r) (ys ++ r)
same_front xs ys r e = same_tie xs ys ∙ ap is_tie (compare_front xs ys r e) ∙ sym (same_tie (xs ++ r) (ys ++ r))

-- Adding goes place by place, so the first v and the others are added apart.
take_add_beds : (v : ℕ) (xs ys : List ℕ) → length xs ≡ length ys → take v (add_beds xs ys) ≡ add_beds (take v xs) (take v ys)
take_add_beds zero xs ys e = refl
take_add_beds (suc v) [] ys e = refl
take_add_beds (suc v) (x ∷ xs) [] e = absurd (omega arith)
take_add_beds (suc v) (x ∷ xs) (y ∷ ys) e = ap {B = List ℕ} (λ l. (x + y) ∷ l) (take_add_beds v xs ys (omega arith))

drop_add_beds : (v : ℕ) (xs ys : List ℕ) → length xs ≡ length ys → drop v (add_beds xs ys) ≡ add_beds (drop v xs) (drop v ys)
drop_add_beds zero xs ys e = refl
drop_add_beds (suc v) [] ys e = refl
drop_add_beds (suc v) (x ∷ xs) [] e = absurd (omega arith)
drop_add_beds (suc v) (x ∷ xs) (y ∷ ys) e = drop_add_beds v xs ys (omega arith)

-- ---- rows

-- A padded row's beds: those of the first v patients, and zeros.
beds_padded : (v : ℕ) (z : Row) → Padded v z → z.beds ≡ take v z.beds ++ replicate (32 - v) 0
beds_padded v z p = sym (take-append-drop v z.beds) ∙ ap (λ (l : List ℕ). take v z.beds ++ l) p.rest

unpadded_length : (v : ℕ) (z : Row) → v ≤ 32 → Padded v z → length (unpadded v z).beds ≡ v
unpadded_length v z h p = length-take-le v z.beds (omega (arith, p.long))

-- Without the padding rows compare as with it, and their beds are the same where they were.
pub unpadded_compare : (v : ℕ) (x y : Row) → v ≤ 32 → Padded v x → Padded v y → compare_rows (unpadded v x) (unpadded v y) ≡ compare_rows x y
unpadded_compare v x y h p q = ap (then_by (compare x.cost y.cost))
    (compare_front (take v x.beds) (take v y.beds) (replicate (32 - v) 0) (unpadded_length v x h p ∙ sym (unpadded_length v y h q))
    ∙ ap₂ compare_beds (sym (beds_padded v x p)) (sym (beds_padded v y q)))

pub unpadded_same : (v : ℕ) (x y : Row) → v ≤ 32 → Padded v x → Padded v y → same_beds (unpadded v x) (unpadded v y) ≡ same_beds x y
unpadded_same v x y h p q = same_front (take v x.beds) (take v y.beds) (replicate (32 - v) 0) (unpadded_length v x h p ∙ sym (unpadded_length v y h q))
    ∙ ap₂ (same eqb) (sym (beds_padded v x p)) (sym (beds_padded v y q))

-- To add and to take the padding away, in either order; padded rows added are padded.
pub unpadded_add : (v : ℕ) (x y : Row) → length x.beds ≡ length y.beds → unpadded v (add_rows x y) ≡ add_rows (unpadded v x) (unpadded v y)
unpadded_add v x y e = λ i. record { cost = x.cost + y.cost; beds = take_add_beds v x.beds y.beds e i }

pub padded_add : (v : ℕ) (x y : Row) → v ≤ 32 → Padded v x → Padded v y → Padded v (add_rows x y)
padded_add v x y h p q = record {
  long = add_length x.beds y.beds (p.long ∙ sym q.long) ∙ q.long;
  rest = drop_add_beds v x.beds y.beds (p.long ∙ sym q.long) ∙ ap₂ add_beds p.rest q.rest ∙ nothing;
}
  where
    nothing : add_beds (replicate (32 - v) 0) (replicate (32 - v) 0) ≡ replicate (32 - v) 0
    nothing = add_zeros (32 - v) (replicate (32 - v) 0) (omega (arith, length-replicate {A = ℕ} (32 - v) 0))

-- Padded rows that are one row without the padding are one row.
pub unpadded_one : (v : ℕ) (x y : Row) → Padded v x → Padded v y → unpadded v x ≡ unpadded v y → x ≡ y
unpadded_one v x y p q e = λ i. record { cost = (e i).cost; beds = beds i }
  where
    beds : x.beds ≡ y.beds
    beds = beds_padded v x p ∙ ap (λ (z : Row). z.beds ++ replicate (32 - v) 0) e ∙ sym (beds_padded v y q)

-- The row of v beds with zeros behind them is padded, and without the padding it is the row.
pub padded_with : (v cost : ℕ) (beds : List ℕ) → v ≤ 32 → length beds ≡ v → Padded v (record { cost = cost; beds = beds ++ replicate (32 - v) 0 })
padded_with v cost beds h e = record {
  long = omega (arith, length-append beds (replicate (32 - v) 0), length-replicate {A = ℕ} (32 - v) 0);
  rest = drop_at beds (replicate (32 - v) 0) v e;
}

pub unpadded_with : (v cost : ℕ) (beds : List ℕ) → length beds ≡ v
    → unpadded v (record { cost = cost; beds = beds ++ replicate (32 - v) 0 }) ≡ record { cost = cost; beds = beds }
unpadded_with v cost beds e = λ i. record { cost = cost; beds = take_at beds (replicate (32 - v) 0) v e i }

-- Where all beds are 0, each is.
pub zero_bed : (n s : ℕ) → bed_of (replicate n 0) s ≡ 0
zero_bed zero s = refl
zero_bed (suc n) zero = refl
zero_bed (suc n) (suc s) = zero_bed n s

-- From patient v on, a padded row's bed is 0.
pub padded_zero : (v : ℕ) (z : Row) (s : ℕ) → Padded v z → v ≤ s → bed_of z.beds s ≡ 0
padded_zero v z s p h =
    let at : v + (s - v) ≡ s = omega arith in
    sym (ap (bed_of z.beds) at) ∙ sym (get_or-drop v z.beds (s - v) 0) ∙ ap (λ (l : List ℕ). bed_of l (s - v)) p.rest ∙ zero_bed (32 - v) (s - v)
