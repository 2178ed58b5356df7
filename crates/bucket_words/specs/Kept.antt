-- The kept place of a term's entry: from the start of its entries on, what the beds of all members but the highest make of it.
use Rattle.std.specs.Prelude.{◌≤◌, ◌*◌, ◌<◌, ◌≡◌}
use Rattle.definitions.specs.Basics.{ℕ, suc, cond, List, map, length, get_or, eqb, below, sum}
use Rattle.definitions.specs.Plans.{Plan, bed_of}
use Rattle.bucket_words.specs.declared.TableTerm.{TableTerm}
use Rattle.bucket_words.specs.Words.{member_at, stride_at}

-- The stride of a member behind which another one comes. For the highest, whose beds lie side by side, it is 0, and where there is no member.
abbrev pub low_stride : List TableTerm → ℕ → ℕ → ℕ
low_stride terms k j = cond (eqb (stride_at terms k (suc j)) 0) 0 (stride_at terms k j)

unfoldable pub kept_at : List TableTerm → ℕ → Plan → ℕ
kept_at terms k plan = sum (map (λ j. bed_of plan (member_at terms k j) * low_stride terms k j) (below 3))

-- Each term's place is kept for these beds.
pub record Kept (terms : List TableTerm) (beds places : List ℕ) : Type 0 where
  pub long : length places ≡ 64
  pub each : (k : ℕ) → k < 64 → get_or places k 0 ≡ kept_at terms k beds

-- What all terms keep to: their members are patients, and from term t on nothing is said.
pub record Bounded (terms : List TableTerm) (t : ℕ) : Type 0 where
  pub few : t ≤ 64
  pub known : (k j : ℕ) → k < 64 → j < 4 → member_at terms k j < 32
  pub near : (k j : ℕ) → k < 64 → j < 4 → stride_at terms k j ≤ 4096
  pub blank : (k j : ℕ) → t ≤ k → k < 64 → j < 4 → stride_at terms k j ≡ 0
