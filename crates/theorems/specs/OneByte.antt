-- A file whose questions 1 to 4 are answered yes, with one byte changed to another, is refused by every entry, by every call from C and in print.
-- (Theorems that rest on these stand in `proofs/OneByte.antt`.)
use Rattle.std.specs.Prelude.{◌≢◌, ◌≤◌, set, ◌<◌, ◌≡◌}
use Rattle.definitions.specs.Basics.{ℕ, List, length}
use Rattle.definitions.specs.Basics.{get_or}
use Rattle.definitions.specs.Questions.{first_no, asked_of_file, check_of}
use Rattle.theorems.specs.Refused.{Refused}

-- Check's number for the changed file is not 0 and at most 4, and it is what every entry, every call and the printed text give.
abbrev pub OneByteRefused : Type 0
OneByteRefused = (file : List ℕ) (i b : ℕ) → i < length file → b ≢ get_or file i 0 → first_no (asked_of_file file) ≡ 0
    → (check_of (set file i b) ≢ 0) × (check_of (set file i b) ≤ 4) × Refused (check_of (set file i b)) (set file i b)
