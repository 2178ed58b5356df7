-- The stride of a member behind which another one comes.
use mathlib.Core.Path.{◌≡◌, refl, ap}
use Prim.Native.Nat.{◌≤◌}
use native.Mathlib.Numerals.{add-one}
use native.Mathlib.Omega.{arith}
use borrow.Author.Tests.{eq-eqb, ne_eqb}
use Rattle.std.specs.Prelude.{◌+◌}
use Rattle.definitions.specs.Basics.{ℕ, suc, Bool, true, false, cond, List, eqb}
use Rattle.bucket_words.specs.declared.TableTerm.{TableTerm}
use Rattle.bucket_words.specs.Words.{member_at, stride_at}
use Rattle.bucket_words.specs.Kept.{low_stride}
use Rattle.kept_places.specs.Moves.{stride_for}

module _ (terms : List TableTerm) (k j : ℕ) where
  pub low_last : stride_at terms k (j + 1) ≡ 0 → low_stride terms k j ≡ 0
  low_last e = ap (λ last. cond last 0 (stride_at terms k j)) (eq-eqb (stride_at terms k (suc j)) 0 (rw add-one at e))

  pub low_inner : (stride_at terms k (j + 1) ≡ 0 → ⊥) → low_stride terms k j ≡ stride_at terms k j
  low_inner other = ap (λ last. cond last 0 (stride_at terms k j)) (ne_eqb (stride_at terms k (suc j)) 0 (rw add-one at other))

  pub low_within : (most : ℕ) → stride_at terms k j ≤ most → low_stride terms k j ≤ most
  low_within most h = by_test (eqb (stride_at terms k (suc j)) 0)
    where
      by_test : (last : Bool) → cond last 0 (stride_at terms k j) ≤ most
      by_test true = omega arith
      by_test false = h

  pub still_for : (s : ℕ) → low_stride terms k j ≡ 0 → stride_for terms s k j ≡ 0
  still_for s still = by_test (eqb (member_at terms k j) s)
    where
      by_test : (same : Bool) → cond same (low_stride terms k j) 0 ≡ 0
      by_test true = still
      by_test false = refl

  pub other_for : (s : ℕ) → (member_at terms k j ≡ s → ⊥) → stride_for terms s k j ≡ 0
  other_for s other = ap (λ same. cond same (low_stride terms k j) 0) (ne_eqb (member_at terms k j) s other)
