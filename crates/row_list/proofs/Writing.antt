-- A row written: its cost, and the words of its beds over a part of the area.
use Rattle.std.proofs.Common.{arith, ◌∙◌, rules, length-set, set, drop, take_all, ◌≡◌, ◌+◌, ◌-◌, ◌*◌, ◌/◌, ◌%◌, ◌<◌, ◌≤◌, ◌++◌}
use Rattle.std.proofs.lemmas.List.{places, get_or-set_same, get_or-set_other}
use native.Mathlib.Decide.{dec_lt}
use native.Mathlib.Nat.{mod-add-div'}
use Rattle.definitions.specs.Basics.{ℕ, List, length, get_or, take}
use Rattle.packed_rows.specs.Packed.{row_of}
use Rattle.packed_rows.specs.declared.Row.{Row}
use Rattle.lists.specs.Below.{below_take}
use Rattle.row_list.specs.Rows.{words_in, whole_row, Stored}
use Rattle.row_list.specs.Laws.{row_words}

-- Some words of an area are written, from one place on, and the words around them are as they were.
pub record Written (at n : ℕ) (words area after : List ℕ) : Type 0 where
  pub first : (k : ℕ) → k < n → get_or after (at + k) 0 ≡ get_or words k 0
  pub low : (k : ℕ) → k < at → get_or after k 0 ≡ get_or area k 0
  pub high : (k : ℕ) → at + n ≤ k → get_or after k 0 ≡ get_or area k 0
  pub long : length after ≡ length area

abbrev with_words : ℕ → ℕ → List ℕ → List ℕ → List ℕ
with_words at n words area = take at area ++ (words ++ drop n (drop at area))

written : (at n : ℕ) (words area : List ℕ) → length words ≡ n → at + n ≤ length area → Written at n words area (with_words at n words area)
written at n words area same inside = record {
  first = λ k h. search (rules, places);
  low = λ k h. search (rules, places);
  high = λ k h. grind (arith, places);
  long = search (rules, places);
}

-- The area once its cost is written.
abbrev pub with_cost : ℕ → ℕ → ℕ → List ℕ → List ℕ
with_cost i low high area = set (set area (i * 6) low) (i * 6 + 1) high

module _ (i : ℕ) (x : Row) (area : List ℕ) (inside : i * 6 + 6 ≤ length area) where
  abbrev low : ℕ
  low = x.cost % 4_294_967_296

  abbrev high : ℕ
  high = x.cost / 4_294_967_296

  module _ (after : List ℕ) (long : length x.words ≡ 4) (r : Written (i * 6 + 2) 4 x.words (with_cost i low high area) after) where
    outside : (k : ℕ) → (k ≡ i * 6 → ⊥) → (k ≡ i * 6 + 1 → ⊥) → get_or (with_cost i low high area) k 0 ≡ get_or area k 0
    outside k p q = get_or-set_other (set area (i * 6) low) (i * 6 + 1) k high 0 q ∙ get_or-set_other area (i * 6) k low 0 p

    low_there : get_or after (i * 6) 0 ≡ x.cost % 4_294_967_296
    low_there =
        r.low (i * 6) (omega arith) ∙ get_or-set_other (set area (i * 6) low) (i * 6 + 1) (i * 6) high 0 (λ q. omega arith)
        ∙ get_or-set_same area (i * 6) low 0 (omega arith)

    high_there : get_or after (i * 6 + 1) 0 ≡ x.cost / 4_294_967_296
    high_there = r.low (i * 6 + 1) (omega arith) ∙ get_or-set_same (set area (i * 6) low) (i * 6 + 1) high 0 (omega (arith, length-set area (i * 6) low))

    row_there : whole_row after i ≡ row_of x
    unfolding whole_row
    row_there =
        let words : words_in after i ≡ x.words =
        below_take (λ k. get_or after (i * 6 + 2 + k) 0) x.words 4 (omega arith) r.first ∙ take_all 4 x.words (omega arith) in
        rw (low_there, high_there, words, mod-add-div' x.cost 4_294_967_296)

    others_there : (j : ℕ) → (j ≡ i → ⊥) → whole_row after j ≡ whole_row area j
    others_there j ne = row_words j j after area (λ k l. elim (dec_lt j i) [
      | yes t ↦ r.low (j * 6 + k) (omega arith) ∙ outside (j * 6 + k) (λ q. omega arith) (λ q. omega arith)
      | no t ↦ (let u : i < j = omega arith in r.high (j * 6 + k) (omega arith) ∙ outside (j * 6 + k) (λ q. omega arith) (λ q. omega arith))
    ])

    all_stored : Stored i x area after
    all_stored = record {
      row = row_there;
      others = others_there;
      long = r.long ∙ length-set (set area (i * 6) low) (i * 6 + 1) high ∙ length-set area (i * 6) low;
    }

  pub stored : (words : List ℕ) → length x.words ≡ 4 → words ≡ x.words
      → Stored i x area (take (i * 6 + 2) (with_cost i low high area) ++ (words ++ drop (i * 6 + 6 - (i * 6 + 2)) (drop (i * 6 + 2) (with_cost i low high area))))
  stored words long is =
      let four : i * 6 + 6 - (i * 6 + 2) ≡ 4 = omega arith in
      let held = with_cost i low high area in
      let room : i * 6 + 2 + 4 ≤ length held = omega (arith, length-set (set area (i * 6) low) (i * 6 + 1) high, length-set area (i * 6) low) in
      rw (is, four) (all_stored (with_words (i * 6 + 2) 4 x.words held) long (written (i * 6 + 2) 4 x.words held long room))
