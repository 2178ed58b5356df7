-- How many costs the entry may leave.
use Rattle.std.specs.Prelude.{◌≡◌, ◌≤◌, ◌<◌}
use Rattle.std.proofs.Common.{sym, ap, ap₂, ◌∙◌, mul-one, arith, le-leb, lt-ltb, le-ltb, ◌*◌, ◌/◌, ◌&&◌}
use Rattle.std.proofs.Math.Bool.{and-false}
use Rattle.std.proofs.Math.Decide.{dec_lt, dec_le}
use Rattle.std.proofs.lemmas.Bool.{lt-leb}
use Rattle.definitions.specs.Basics.{ℕ, cond, leb, ltb}
use Rattle.definitions.specs.Limits.{plans_wanted, limits}

-- None where the result area is too short; else those whose eight bytes fit the cost area, and no more than m can be.
unfoldable pub cost_room : ℕ → ℕ → ℕ
cost_room costs result = cond (ltb result 8) 0 (cond (ltb (costs / 8) (limits plans_wanted).highest) (costs / 8) (limits plans_wanted).highest)

-- The costs that the entry may leave are those that fit, if m is 1 to 64.
pub room_same : (m costs result : ℕ) → 0 < m → m ≤ 64 → leb (m * 1) (cost_room costs result) ≡ (leb (m * 8) costs && leb (1 * 8) result)
unfolding cost_room limits
room_same m costs result some few = go (dec_lt result 8) (dec_lt (costs / 8) 64)
  where
    one : m * 1 ≡ m
    one = mul-one m

    go : Dec (result < 8) → Dec (costs / 8 < 64) → leb (m * 1) (cond (ltb result 8) 0 (cond (ltb (costs / 8) 64) (costs / 8) 64)) ≡ (leb (m * 8) costs && leb (1 * 8) result)
    go (yes h) d =
        rw (lt-ltb result 8 h) (lt-leb (m * 1) 0 (omega arith) ∙ sym (ap (λ b. leb (m * 8) costs && b) (lt-leb 8 result h) ∙ and-false (leb (m * 8) costs)))
    go (no h) (yes l) = rw (le-ltb result 8 (omega arith), lt-ltb (costs / 8) 64 l) (fits (dec_le (m * 8) costs))
      where
        fits : Dec (m * 8 ≤ costs) → leb (m * 1) (costs / 8) ≡ (leb (m * 8) costs && leb (1 * 8) result)
        fits (yes k) = le-leb (m * 1) (costs / 8) (omega arith) ∙ sym (ap₂ (λ a b. a && b) (le-leb (m * 8) costs k) (le-leb 8 result (omega arith)))
        fits (no k) = lt-leb (m * 1) (costs / 8) (omega arith) ∙ sym (ap (λ b. b && leb (1 * 8) result) (lt-leb (m * 8) costs (omega arith)))
    go (no h) (no l) =
        rw (le-ltb result 8 (omega arith), le-ltb (costs / 8) 64 (omega arith))
        (le-leb (m * 1) 64 (omega arith) ∙ sym (ap₂ (λ a b. a && b) (le-leb (m * 8) costs (omega arith)) (le-leb 8 result (omega arith))))

-- Room for more than 64 costs, or more than fit, is never lent.
pub room_most : (costs result : ℕ) → (cost_room costs result ≤ 64) × (cost_room costs result * 8 ≤ costs)
unfolding cost_room limits
room_most costs result = go (dec_lt result 8) (dec_lt (costs / 8) 64)
  where
    go : Dec (result < 8) → Dec (costs / 8 < 64)
        → (cond (ltb result 8) 0 (cond (ltb (costs / 8) 64) (costs / 8) 64) ≤ 64) × (cond (ltb result 8) 0 (cond (ltb (costs / 8) 64) (costs / 8) 64) * 8 ≤ costs)
    go (yes h) d = rw (lt-ltb result 8 h) (omega arith, omega arith)
    go (no h) (yes l) = rw (le-ltb result 8 (omega arith), lt-ltb (costs / 8) 64 l) (omega arith, omega arith)
    go (no h) (no l) = rw (le-ltb result 8 (omega arith), le-ltb (costs / 8) 64 (omega arith)) (omega arith, omega arith)
