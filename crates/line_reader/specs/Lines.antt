-- A line is what stands up to its line end.
use Rattle.std.proofs.Common.{ap, arith, eq-eqb, ne_eqb, eqb-true, ◌+◌, ◌<◌, ◌≡◌, ◌&&◌, ◌∷◌}
use Rattle.std.proofs.lemmas.Bool.{eqb-false}
use Rattle.std.specs.Prelude.{take, drop, ◌≤◌, max}
use Rattle.definitions.specs.Basics.{ℕ, suc, refl, Bool, true, false, not, List, [], length, get_or, eqb}
use Rattle.definitions.specs.Layout.{lines, onto_first}

-- How many bytes the first line has, its line end among them.
abbrev pub line_length : List ℕ → ℕ
line_length [] = 0
line_length (b ∷ bs) = elim (eqb b 10) [ true ↦ 1 | false ↦ suc (line_length bs) ]

-- A line that begins at a place is sought up to place i: what is left of it from there on is the rest of it.
pub record Seeking (s : List ℕ) (at i : ℕ) : Type 0 where
  pub low : at ≤ i
  pub high : i ≤ max at (length s)
  pub same : i + line_length (drop i s) ≡ at + line_length (drop at s)

-- Is the byte at a place no line end? Are the four from a place on none?
abbrev pub no_end : List ℕ → ℕ → Bool
no_end s i = not (eqb (get_or s i 0) 10)

abbrev pub no_end_in_four : List ℕ → ℕ → Bool
no_end_in_four s i = no_end s i && (no_end s (i + 1) && (no_end s (i + 2) && no_end s (i + 3)))

module _ (b : ℕ) (bs : List ℕ) where
  pub line_ends : b ≡ 10 → line_length (b ∷ bs) ≡ 1
  line_ends e = rw (eq-eqb b 10 e, line_length)

  pub line_goes_on : (b ≡ 10 → ⊥) → line_length (b ∷ bs) ≡ suc (line_length bs)
  line_goes_on e = rw (ne_eqb b 10 e, line_length)

-- The first line, and the lines after it.
pub lines_split : (xs : List ℕ) → 0 < length xs → lines xs ≡ take (line_length xs) xs ∷ lines (drop (line_length xs) xs)
lines_split [] h = absurd (omega arith)
lines_split (b ∷ bs) h = go (eqb b 10) refl bs (lines_split bs)
  where
    go : (t : Bool) → eqb b 10 ≡ t → (cs : List ℕ) → (0 < length cs → lines cs ≡ take (line_length cs) cs ∷ lines (drop (line_length cs) cs))
        → lines (b ∷ cs) ≡ take (line_length (b ∷ cs)) (b ∷ cs) ∷ lines (drop (line_length (b ∷ cs)) (b ∷ cs))
    go true e cs ih = rw (line_ends b cs (eqb-true b 10 e), e, lines)
    go false e [] ih = rw (line_goes_on b [] (eqb-false b 10 e), e, lines)
    go false e (c ∷ cs) ih = rw (line_goes_on b (c ∷ cs) (eqb-false b 10 e), e, lines) (ap (onto_first b) (ih (omega arith)))
