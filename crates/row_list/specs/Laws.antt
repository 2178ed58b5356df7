-- Laws of rows that lie in an area.
use Rattle.std.specs.Prelude.{◌≡◌, refl, ◌≤◌, drop}
use Rattle.std.proofs.Common.{sym, ap, ◌∙◌, arith, get_or-take, drop-cons, ◌+◌, ◌*◌, ◌<◌, ◌∷◌, ◌++◌}
use mathlib.Core.List.{map-map}
use Rattle.definitions.specs.Basics.{ℕ, suc, List, [], map, length, get_or, take, below}
use Rattle.definitions.specs.Plans.{Row}
use Rattle.partial_rows.specs.Padding.{unpadded}
use Rattle.packed_rows.specs.declared.Row as Code
use Rattle.packed_rows.specs.Laws.{packed_long}
use Rattle.lists.specs.Below.{length_by_places, at_place, below_more, below_same}
use Rattle.row_list.specs.Rows.{words_in, whole_row, whole_rows, row_in, rows_in, Stored}

-- A row is its six words, wherever they lie.
pub row_words : (i j : ℕ) (a b : List ℕ) → ((k : ℕ) → k < 6 → get_or a (i * 6 + k) 0 ≡ get_or b (j * 6 + k) 0) → whole_row a i ≡ whole_row b j
unfolding whole_row
row_words i j a b same =
    let low : get_or a (i * 6) 0 ≡ get_or b (j * 6) 0 = (let p : i * 6 + 0 ≡ i * 6 = omega arith in let q : j * 6 + 0 ≡ j * 6 = omega arith in rw (p, q) at (same 0 (omega arith))) in
    let words : words_in a i ≡ words_in b j =
    below_same (λ k. get_or a (i * 6 + 2 + k) 0) (λ k. get_or b (j * 6 + 2 + k) 0) 4 (λ k l.
    let p : i * 6 + 2 + k ≡ i * 6 + (2 + k) = omega arith in let q : j * 6 + 2 + k ≡ j * 6 + (2 + k) = omega arith in
    rw (p, q) (same (2 + k) (omega arith))) in
    rw (low, same 1 (omega arith), words)

-- A row has 32 beds.
pub row_long : (area : List ℕ) (i : ℕ) → length (whole_row area i).beds ≡ 32
unfolding whole_row
row_long area i = packed_long (words_in area i) (length_by_places (λ k. get_or area (i * 6 + 2 + k) 0) 0 4)

-- The rows before one that is written.
pub rows_before : (i : ℕ) (x : Code.Row) (area after : List ℕ) → Stored i x area after → whole_rows i after ≡ whole_rows i area
unfolding whole_rows
rows_before i x area after s = below_same (whole_row after) (whole_row area) i (λ j l. s.others j (λ q. omega arith))

pub rows_long : (n : ℕ) (area : List ℕ) → length (whole_rows n area) ≡ n
unfolding whole_rows
rows_long n area = length_by_places (whole_row area) 0 n

pub rows_at : (n : ℕ) (area : List ℕ) (i : ℕ) (d : Row) → i < n → whole_row area i ≡ get_or (whole_rows n area) i d
unfolding whole_rows
rows_at n area i d h = sym (at_place (whole_row area) d n i h)

pub rows_none : (area : List ℕ) → whole_rows 0 area ≡ []
unfolding whole_rows
rows_none area = refl

pub rows_more : (n : ℕ) (area : List ℕ) → whole_rows (suc n) area ≡ whole_rows n area ++ (whole_row area n ∷ [])
unfolding whole_rows
rows_more n area = below_more (whole_row area) n

-- The first n rows are in the first n × 6 words.
pub rows_words : (n : ℕ) (a b : List ℕ) → ((k : ℕ) → k < n * 6 → get_or a k 0 ≡ get_or b k 0) → whole_rows n a ≡ whole_rows n b
unfolding whole_rows
rows_words n a b same = below_same (whole_row a) (whole_row b) n (λ i l. row_words i i a b (λ k t. same (i * 6 + k) (omega arith)))

pub rows_take : (n k : ℕ) (area : List ℕ) → n * 6 ≤ k → whole_rows n (take k area) ≡ whole_rows n area
rows_take n k area fits = rows_words n (take k area) area (λ i l. get_or-take k area i 0 (omega arith))

-- The rows for v patients, one by one.
module _ (v : ℕ) where
  rows_unpadded : (n : ℕ) (area : List ℕ) → rows_in v n area ≡ map (row_in v area) (below n)
  unfolding whole_rows
  rows_unpadded n area = map-map (unpadded v) (whole_row area) (below n)

  pub unpadded_long : (n : ℕ) (area : List ℕ) → length (rows_in v n area) ≡ n
  unpadded_long n area = ap length (rows_unpadded n area) ∙ length_by_places (row_in v area) 0 n

  pub unpadded_at : (n : ℕ) (area : List ℕ) (i : ℕ) (d : Row) → i < n → row_in v area i ≡ get_or (rows_in v n area) i d
  unpadded_at n area i d h = sym (ap (λ (l : List Row). get_or l i d) (rows_unpadded n area) ∙ at_place (row_in v area) d n i h)

  pub unpadded_from : (n : ℕ) (area : List ℕ) (i : ℕ) → i < n → drop i (rows_in v n area) ≡ row_in v area i ∷ drop (suc i) (rows_in v n area)
  unpadded_from n area i h =
      let row = row_in v area i in
      drop-cons (rows_in v n area) i row (omega (arith, unpadded_long n area)) ∙ ap (λ (z : Row). z ∷ drop (suc i) (rows_in v n area)) (sym (unpadded_at n area i row h))
