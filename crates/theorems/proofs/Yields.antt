-- Which files yield a list, and when a sheet is printed: what list's and sheet's number 0 says of the questions.
use Rattle.std.proofs.Common.{sym, ◌∙◌, true≢false, arith, ◌<◌, ◌≡◌, ◌∷◌}
use Rattle.definitions.specs.Basics.{ℕ, refl, List, [], map, length}
use Rattle.definitions.specs.Syntax.{Region}
use Rattle.definitions.specs.Plans.{Plan, Row, list_of}
use Rattle.definitions.specs.Sheets.{part, sheet_of}
use Rattle.definitions.specs.Questions.{region_of}
use Rattle.definitions.specs.Isolation.{YieldsList}
use Rattle.lists.specs.Members.{◌∈◌, here, none_in_nil, in_map}
use Rattle.theorems.specs.Accepted.{plans_wanted_lem}
use Rattle.theorems.proofs.List.{list_empty}
use Rattle.theorems.proofs.SheetRows.{sheet_parts}
use Rattle.theorems.specs.Yields.{yields, yielding}

-- ---- what follows for the region of such a file

-- Its list has a first row, so every sheet has one.
pub sheet_some : (file : List ℕ) → YieldsList file → (c : ℕ) → 0 < length (sheet_of (region_of file) c)
sheet_some file e c = go (list_of r) refl
  where
    r : Region
    r = region_of file

    wanted : 0 < r.plans_wanted
    wanted = (plans_wanted_lem r (yielding file e)).0

    nonempty : (s : List Row) {p : Plan} → p ∈ map (λ w. w.beds) s → 0 < length s
    nonempty [] k = absurd (none_in_nil k)
    nonempty (w ∷ s) k = omega arith

    go : (l : List Row) → list_of r ≡ l → 0 < length (sheet_of r c)
    go [] q = absurd (true≢false (sym ((yields file).0 e).planned ∙ (list_empty r wanted).0 q))
    go (w ∷ l) q =
        let k : w ∈ list_of r = rw q (here refl) in
        nonempty (sheet_of r c) ((sheet_parts r c).every (part r c w.beds) (in_map (λ (w : Row). part r c w.beds) k))
