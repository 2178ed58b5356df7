-- How long the lines of an accepted region are: a file that is written has at most `most_written` bytes.
-- (Theorems that rest on these stand in `proofs/Lengths.antt`.)
use Rattle.definitions.specs.Basics.{ℕ}

-- ---- the longest lines, from the limits

-- As many of each as there may be.
abbrev pub most_written : ℕ
most_written = 35_038
