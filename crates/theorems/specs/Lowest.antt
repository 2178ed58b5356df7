-- The lowest of some numbers is one of them, and none of them is lower; of rising ones it is the first.
use Rattle.std.specs.Prelude.{◌≡◌, refl, ◌≤◌}
use Rattle.std.proofs.Common.{inl, inr, arith, ltb-true, ◌<◌, ◌∷◌}
use Rattle.std.proofs.Math.Decide.{dec_le}
use Rattle.definitions.specs.Basics.{ℕ, min, true, List, [], length, get_or, ltb, every, every_two}
use Rattle.definitions.specs.Sheets.{lowest}
use Rattle.lists.specs.Tests.{both}
use Rattle.lists.specs.Members.{◌∈◌, here, there, here_or_there, none_in_nil, in_cast}
use Rattle.lists.specs.Every.{every_in}

pub lowest_in_lem : (l : List ℕ) → 0 < length l → lowest l ∈ l
lowest_in_lem [] h = absurd (omega arith)
lowest_in_lem (n ∷ []) h = here refl
lowest_in_lem (n ∷ m ∷ ns) h = go (lowest (m ∷ ns)) (lowest_in_lem (m ∷ ns) (omega arith)) (dec_le n (lowest (m ∷ ns)))
  where
    go : (k : ℕ) → k ∈ m ∷ ns → Dec (n ≤ k) → min n k ∈ n ∷ m ∷ ns
    go k i (yes low) = let same : min n k ≡ n = omega arith in here same
    go k i (no low) = let same : min n k ≡ k = omega arith in there (in_cast same i)

pub lowest_least : (l : List ℕ) {s : ℕ} → s ∈ l → lowest l ≤ s
lowest_least [] k = absurd (none_in_nil k)
lowest_least (n ∷ []) k = elim (here_or_there k) [ inl e ↦ omega arith | inr t ↦ absurd (none_in_nil t) ]
lowest_least (n ∷ m ∷ ns) k = elim (here_or_there k) [ inl e ↦ omega arith | inr t ↦ omega (arith, lowest_least (m ∷ ns) t) ]

pub lowest_first : (l : List ℕ) → every_two ltb l ≡ true → lowest l ≡ get_or l 0 0
lowest_first [] up = refl
lowest_first (n ∷ []) up = refl
lowest_first (n ∷ m ∷ ns) up =
    omega (arith, ltb-true n _ (every_in (ltb n) (m ∷ ns) (both (every (ltb n) (m ∷ ns)) up).0 (lowest_in_lem (m ∷ ns) (omega arith))))
