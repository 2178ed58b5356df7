-- Looking for a line end: what is left to pass is what was asked.
use mathlib.Core.Path.{◌≡◌, sym, ap, ap₂, ◌∙◌}
use mathlib.Core.List.{List, ◌∷◌}
use Prim.Native.Nat.{ℕ, suc, ◌+◌, ◌-◌, ◌≤◌, ◌<◌}
use native.Mathlib.Omega.{arith}
use lib.ListN.{length, get_or, take, drop, length-drop, drop_of_length-le}
use lib.Seq.{drop-cons, drop-drop}
use lib.Dec.{eqb}
use mathlib.Core.Bool.{true}
use borrow.Author.Tests.{eqb-true}
use Rattle.definitions.specs.Layout.{lines}
use Rattle.line_reader.specs.Answers.{LineEnd}
use Rattle.line_reader.specs.Lines.{line_length, Seeking, line_ends, lines_split}

-- Where the first line's length is known, so is where it ends.
split_at : (s : List ℕ) (at r : ℕ) → r ≡ at + line_length (drop at s) → at < length s → lines (drop at s) ≡ take (r - at) (drop at s) ∷ lines (drop r s)
split_at s at r e h =
    let n : r - at ≡ line_length (drop at s) = omega arith in
    lines_split (drop at s) (simp length-drop (omega arith))
    ∙ ap₂ (λ k l. take k (drop at s) ∷ lines l) (sym n) (drop-drop (line_length (drop at s)) at s ∙ ap (λ k. drop k s) (sym e))

module _ {s : List ℕ} {at i : ℕ} (k : Seeking s at i) where
  module _ (h : i < length s) where
    pub seeking_here : eqb (get_or s i 0) 10 ≡ true → LineEnd s at (i + 1)
    seeking_here is =
        let n = eqb-true (get_or s i 0) 10 is in
        let l = k.low in
        let f = k.same in
        let e : line_length (drop i s) ≡ 1 = rw (drop-cons s i 0 h) (line_ends (get_or s i 0) (drop (suc i) s) n) in
        record { splits = split_at s at (i + 1) (omega arith); ahead = omega arith; within = omega arith }

  pub seeking_out : length s ≤ i → LineEnd s at (length s)
  seeking_out h =
      let l = k.low in
      let g = k.high in
      let f = k.same in
      let e : line_length (drop i s) ≡ 0 = ap line_length (drop_of_length-le s h) in
      record { splits = λ b. split_at s at (length s) (omega arith) b; ahead = omega arith; within = omega arith }
