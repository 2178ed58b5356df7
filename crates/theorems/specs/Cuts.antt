-- Demand 1: every cut of a laid-out file, short of the whole, is refused with number 2 by every entry and every call.
-- (Theorems that rest on these stand in `proofs/Cuts.antt`.)
use Rattle.std.specs.Prelude.{◌<◌, ◌≡◌}
use Rattle.definitions.specs.Basics.{ℕ, true, List, length, take}
use Rattle.definitions.specs.Questions.{short_enough, laid_out}
use Rattle.theorems.specs.Refused.{Refused}

abbrev pub CutRefused : Type 0
CutRefused = (file : List ℕ) (n : ℕ) → short_enough file ≡ true → laid_out file ≡ true → n < length file → Refused 2 (take n file)
