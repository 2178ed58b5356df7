-- What a result area holds afterwards, by its length.
use Rattle.std.specs.Prelude.{◌≤◌}
use Rattle.std.proofs.Common.{le-leb, ◌*◌, ◌<◌, ◌≡◌}
use Rattle.std.proofs.lemmas.Bool.{lt-leb}
use Rattle.definitions.specs.Basics.{ℕ, List, length}
use Rattle.definitions.specs.Outcomes.{written}
use Rattle.definitions.specs.Boundary.{bytes_of, result_after}

-- A result area with room for the numbers has them afterwards; a shorter one is as it was.
module _ (numbers result : List ℕ) where
  pub result_written : length numbers * 8 ≤ length result → written 0 8 (bytes_of 8) numbers result ≡ result_after numbers result
  unfolding result_after
  result_written h = rw (le-leb (length numbers * 8) (length result) h)

  pub result_short : length result < length numbers * 8 → result ≡ result_after numbers result
  unfolding result_after
  result_short h = rw (lt-leb (length numbers * 8) (length result) h)
