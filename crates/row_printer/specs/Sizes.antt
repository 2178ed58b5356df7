-- How long printed lines are, for rows within a region's limits.
use Rattle.std.specs.Prelude.{◌≡◌, refl, ◌≤◌}
use Rattle.std.proofs.Common.{ap, ◌∙◌, mul-le-mul_right, arith, ◌+◌, ◌*◌, ◌<◌, ◌∷◌, ◌++◌}
use Rattle.std.proofs.Math.Nat.{le_trans}
use Rattle.std.proofs.Math.ListN.{length-append}
use Rattle.definitions.specs.Basics.{ℕ, zero, suc, List, [], map, flat_map, flatten, length, sum, text}
use Rattle.definitions.specs.Spelling.{decimal, bracketed, line}
use Rattle.definitions.specs.Plans.{Row}
use Rattle.definitions.specs.Output.{printed_row, printed_rows}
use Rattle.theorems.specs.Accepted.{most_total}
use Rattle.lists.specs.Members.{◌∈◌, here, there}
use Rattle.theorems.specs.Numbers.{decimal_length}
use Rattle.text_writer.specs.Parts.{gap, apart, bracketed_apart}
use Rattle.row_printer.specs.Printing.{counted}
use Rattle.row_printer.specs.Lines.{refusal_parts, row_parts, list_parts, sheet_parts}

-- A row of at most k beds, each below 16, and a cost of at most `most_total`.
pub record Small (k : ℕ) (row : Row) : Type 0 where
  pub few : length row.beds ≤ k
  pub low : (b : ℕ) → b ∈ row.beds → b < 16
  pub cheap : row.cost ≤ most_total

-- The longest line of a row: `(row `, 8 digits, a space, brackets with 2 digits and a space for each bed, `)` and the line's end.
abbrev pub row_most : ℕ → ℕ
row_most k = 18 + 3 * k

-- The longest list and sheet of 64 such rows: the first line has 10 bytes, `(list 64)`, or 14, `(sheet 15 64)`.
abbrev pub list_most : ℕ → ℕ
list_most k = 10 + 64 * row_most k

abbrev pub sheet_most : ℕ → ℕ
sheet_most k = 14 + 64 * row_most k

-- The longest text that is printed: a list of 32 beds a row, and 16 sheets that share 32 beds a row:
-- 10 + 64 × (18 + 3 × 32) for the list, and 16 × (14 + 64 × 18) + 64 × 3 × 32 for the sheets.
abbrev pub printed_most : ℕ
printed_most = 32_106

-- Parts are together as long as each of them is.
parts_size : (ps : List (List ℕ)) → length (flatten ps) ≡ sum (map length ps)
unfolding flatten
parts_size [] = refl
parts_size (p ∷ ps) = length-append p (flatten ps) ∙ ap (λ n. length p + n) (parts_size ps)

-- Two digits and a space for each number; with the brackets, the beds of a row.
gap_size : (i : ℕ) → length (gap i) ≤ 1
gap_size zero = omega arith
gap_size (suc i) = omega arith

apart_size : (i : ℕ) (ns : List ℕ) → ((n : ℕ) → n ∈ ns → n < 16) → length (apart i (map decimal ns)) ≤ 3 * length ns
apart_size i [] low = omega arith
apart_size i (n ∷ ns) low =
    let later = apart_size (suc i) ns (λ m k. low m (there k)) in
    let rest = apart (suc i) (map decimal ns) in
    let digits = decimal_length n 1 (omega (arith, low n (here refl))) in
    omega (arith, gap_size i, length-append (gap i) (decimal n ++ rest), length-append (decimal n) rest)

beds_size : (ns : List ℕ) → ((n : ℕ) → n ∈ ns → n < 16) → length (bracketed (map decimal ns)) ≤ 2 + 3 * length ns
beds_size ns low =
    let all = ap length (bracketed_apart (map decimal ns)) ∙ parts_size (text "(" ∷ apart 0 (map decimal ns) ∷ text ")" ∷ []) in
    omega (arith, apart_size 0 ns low)

-- A row, and the rows of a list.
pub row_size : {k : ℕ} (row : Row) → Small k row → length (printed_row row) ≤ row_most k
row_size row small =
    let all = ap length (row_parts row) ∙ parts_size (text "(row " ∷ decimal row.cost ∷ text " " ∷ bracketed (map decimal row.beds) ∷ text ")\n" ∷ []) in
    let digits = decimal_length row.cost 7 (omega (arith, small.cheap)) in
    omega (arith, beds_size row.beds small.low, small.few)

rows_size : (k : ℕ) (rows : List Row) → ((w : Row) → w ∈ rows → Small k w) → length (flat_map printed_row rows) ≤ length rows * row_most k
unfolding flat_map
rows_size k [] small = omega arith
rows_size k (w ∷ rows) small =
    let later = rows_size k rows (λ v i. small v (there i)) in
    omega (arith, length-append (printed_row w) (flat_map printed_row rows), row_size w (small w (here refl)))

-- A list and a sheet.
module _ (k : ℕ) (rows : List Row) (wanted : length rows ≤ 64) (small : (w : Row) → w ∈ rows → Small k w) where
  counted_size : length (counted rows) ≤ 4 + 64 * row_most k
  unfolding counted
  counted_size =
      let most = le_trans (rows_size k rows small) (mul-le-mul_right (row_most k) wanted) in
      let digits = decimal_length (length rows) 1 (omega arith) in
      omega (arith, length-append (decimal (length rows)) (text ")\n" ++ flat_map printed_row rows), length-append (text ")\n") (flat_map printed_row rows))

  pub list_size : length (printed_rows (text "list" ∷ []) rows) ≤ list_most k
  list_size =
      let all = ap length (list_parts rows) ∙ parts_size (text "(list " ∷ counted rows ∷ []) in
      omega (arith, counted_size)

  pub sheet_size : (c : ℕ) → c < 16 → length (printed_rows (text "sheet" ∷ decimal c ∷ []) rows) ≤ sheet_most k
  sheet_size c h =
      let all = ap length (sheet_parts c rows) ∙ parts_size (text "(sheet " ∷ decimal c ∷ text " " ∷ counted rows ∷ []) in
      let digits = decimal_length c 1 (omega arith) in
      omega (arith, counted_size)

-- Sheets of several clinics, the rows of clinic c having at most k c beds.
pub sheets_size : (k : ℕ → ℕ) (rows : ℕ → List Row) (cs : List ℕ)
    → ((c : ℕ) → c ∈ cs → (c < 16) × (length (rows c) ≤ 64) × ((w : Row) → w ∈ rows c → Small (k c) w))
    → length (flat_map (λ c. printed_rows (text "sheet" ∷ decimal c ∷ []) (rows c)) cs) ≤ length cs * sheet_most 0 + 192 * sum (map k cs)
unfolding flat_map
sheets_size k rows [] each = omega arith
sheets_size k rows (c ∷ cs) each =
    let later = sheets_size k rows cs (λ d i. each d (there i)) in
    let (low, wanted, small) = each c (here refl) in
    let first = sheet_size (k c) (rows c) wanted small c low in
    let both = length-append (printed_rows (text "sheet" ∷ decimal c ∷ []) (rows c)) (flat_map (λ c. printed_rows (text "sheet" ∷ decimal c ∷ []) (rows c)) cs) in
    omega arith

-- A refusal, by a question of one or two digits.
pub refusal_size : (q : ℕ) → q ≤ 14 → length (line (text "refused" ∷ decimal q ∷ [])) ≤ 13
refusal_size q h =
    let all = ap length (refusal_parts q) ∙ parts_size (text "(refused " ∷ decimal q ∷ text ")\n" ∷ []) in
    let digits = decimal_length q 1 (omega arith) in
    omega arith
