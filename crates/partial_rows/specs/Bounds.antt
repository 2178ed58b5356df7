-- Lower bounds of the cost of a set's rows.
use Rattle.std.proofs.Common.{sym, ◌∙◌, le_refl, arith, ◌≡◌, ◌∷◌}
use Rattle.std.proofs.Math.Option.{none-ne-some}
use Rattle.std.specs.Prelude.{◌≤◌}
use Rattle.definitions.specs.Basics.{ℕ, zero, suc, min, Option, none, some, option_get_or}
use Rattle.definitions.specs.Basics.{List, [], map, get_or, sum}
use Rattle.definitions.specs.Syntax.{Table, Region}
use Rattle.definitions.specs.Plans.{Plan, entry_for, cost_over}
use Rattle.theorems.specs.Sums.{Halves, halves}
use Rattle.partial_rows.specs.Sets.{Patients}
use Rattle.partial_rows.specs.Rows.{LowerBound}
use Rattle.partial_rows.specs.Costs.{cost_cons}

-- The smaller of two entries, a number before a forbidden one; the least of some.
abbrev pub smaller : Option ℕ → Option ℕ → Option ℕ
smaller none b = b
smaller (some x) none = some x
smaller (some x) (some y) = some (min x y)

abbrev pub least_of : List (Option ℕ) → Option ℕ
least_of [] = none
least_of (e ∷ es) = smaller e (least_of es)

-- The least number of a table, or 0 where it has none.
unfoldable pub least_entry : Table → ℕ
least_entry t = option_get_or (least_of t.entries) 0

-- It is at most every entry that is a number.
abbrev AtMost : Option ℕ → ℕ → Type 0
AtMost none y = ⊥
AtMost (some x) y = x ≤ y

smaller_first : (a b : Option ℕ) (y : ℕ) → AtMost a y → AtMost (smaller a b) y
smaller_first none b y h = absurd h
smaller_first (some x) none y h = h
smaller_first (some x) (some z) y h = omega arith

smaller_second : (a b : Option ℕ) (y : ℕ) → AtMost b y → AtMost (smaller a b) y
smaller_second none b y h = h
smaller_second (some x) none y h = absurd h
smaller_second (some x) (some z) y h = omega arith

least_at_most : (es : List (Option ℕ)) (i y : ℕ) → get_or es i none ≡ some y → AtMost (least_of es) y
least_at_most [] i y e = none-ne-some y e
least_at_most (x ∷ es) zero y e = smaller_first x (least_of es) y (rw e (le_refl y))
least_at_most (x ∷ es) (suc i) y e = smaller_second x (least_of es) y (least_at_most es i y e)

least_entry_lem : (region : Region) (plan : Plan) (t : Table) (y : ℕ) → entry_for region plan t ≡ some y → least_entry t ≤ y
unfolding entry_for least_entry
least_entry_lem region plan t y e = go (least_of t.entries) (least_at_most t.entries _ y e)
  where
    go : (o : Option ℕ) → AtMost o y → option_get_or o 0 ≤ y
    go none h = absurd h
    go (some x) h = h

pub least_sum : (region : Region) (plan : Plan) (tables : List Table) (n : ℕ) → cost_over tables region plan ≡ some n → sum (map least_entry tables) ≤ n
least_sum region plan [] n e = omega arith
least_sum region plan (t ∷ tables) n e =
    let h : Halves (entry_for region plan t) (cost_over tables region plan) n = halves _ _ n (sym (cost_cons region plan t tables) ∙ e) in
    omega (arith, h.whole, least_entry_lem region plan t h.x h.left, least_sum region plan tables h.y h.right)

module _ (region : Region) (D : Patients) (placed : Plan) where
  -- Nothing costs less than 0.
  pub bound_zero : LowerBound region D placed 0
  bound_zero w r = omega arith
