-- The words of a row's beds, read one by one.
use mathlib.Core.Path.{◌≡◌, refl, sym, ◌∙◌}
use native.Mathlib.Omega.{arith}
use Prim.Native.Nat.{ℕ, ◌+◌, ◌*◌, ◌<◌, ◌≤◌}
use borrow.Author.Count.{below_more}
use lib.ListN.{length, set, length-set}
use lib.Seq.{get_or-set_same, get_or-set_other, take_all}
use Rattle.definitions.specs.Basics.{List, get_or, replicate}
use Rattle.packed_rows.specs.Packed.{row_of}
use Rattle.packed_rows.specs.declared.Row.{Row}
use Rattle.lists.specs.Below.{below_take}
use Rattle.row_list.specs.Rows.{words_in, whole_row}

-- The first j words of row i are read.
pub record Read (area : List ℕ) (i j : ℕ) (words : List ℕ) : Type 0 where
  pub first : (k : ℕ) → k < j → get_or words k 0 ≡ get_or area (i * 6 + 2 + k) 0
  pub long : length words ≡ 4

module _ (area : List ℕ) (i : ℕ) where
  pub none_read : Read area i 0 (replicate 4 0)
  none_read = record { first = λ k h. absurd (omega arith); long = refl }

  pub one_read : (j : ℕ) (words : List ℕ) → j < 4 → Read area i j words → Read area i (j + 1) (set words j (get_or area (i * 6 + 2 + j) 0))
  one_read j words h r =
      let w = get_or area (i * 6 + 2 + j) 0 in record {
        first = below_more (λ k. get_or (set words j w) k 0 ≡ get_or area (i * 6 + 2 + k) 0) j
            (λ k l. get_or-set_other words j k w 0 (λ q. omega arith) ∙ r.first k l)
            (get_or-set_same words j w 0 (omega (arith, r.long)));
        long = length-set words j w ∙ r.long;
      }

  pub all_read : (j : ℕ) (x : Row) → 4 ≤ j → x.cost ≡ (whole_row area i).cost → Read area i j x.words → row_of x ≡ whole_row area i
  unfolding whole_row
  all_read j x h cost r =
      let words : x.words ≡ words_in area i =
      sym (below_take (λ k. get_or area (i * 6 + 2 + k) 0) x.words 4 (omega (arith, r.long)) (λ k l. sym (r.first k (omega arith))) ∙ take_all 4 x.words (omega (arith, r.long))) in
      rw (cost, words)
