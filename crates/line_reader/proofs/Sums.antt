-- Summing bytes: what is summed and what is left is the whole sum.
use mathlib.Core.Path.{◌≡◌}
use mathlib.Core.List.{List}
use Prim.Native.Nat.{ℕ, ◌+◌, ◌*◌, ◌^◌, ◌≤◌, ◌<◌}
use native.Mathlib.Omega.{arith}
use lib.ListN.{length, get_or, drop}
use Rattle.definitions.specs.Basics.{sum}
use Rattle.definitions.specs.Limits.{file_length, limits}

pub record Summing (s : List ℕ) (t i : ℕ) : Type 0 where
  pub high : i ≤ length s
  pub small : t ≤ 255 * i
  pub same : t + sum (drop i s) ≡ sum s

-- The bytes of a file of the greatest length, each the greatest.
bytes_fit : 255 * (limits file_length).highest < 2 ^ 32
unfolding limits
bytes_fit = omega arith

pub summing_fits : {s : List ℕ} {t i : ℕ} → Summing s t i → i < length s → get_or s i 0 < 256 → length s ≤ (limits file_length).highest → t + get_or s i 0 < 2 ^ 32
summing_fits m h b n = let l = m.small in omega (arith, bytes_fit)
