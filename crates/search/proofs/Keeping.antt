-- The kept places of a walk, of the words and of a region's tables.
use mathlib.Core.Path.{◌≡◌, refl, sym, ap, ◌∙◌, subst}
use Prim.Native.Nat.{◌≤◌}
use native.Mathlib.Decide.{ℕ_discrete}
use native.Mathlib.Nat.{zero-mul}
use native.Mathlib.Omega.{arith}
use lib.ListN.{set}
use lib.Seq.{set-get_or, set-set}
use borrow.Author.Tests.{eq-eqb}
use Rattle.std.specs.Prelude.{◌+◌, ◌-◌, ◌*◌, ◌<◌}
use Rattle.definitions.specs.Basics.{ℕ, true, List, length, replicate, get_or}
use Rattle.definitions.specs.Syntax.{Region}
use Rattle.definitions.specs.Plans.{bed_of, place_in, constraints}
use Rattle.lists.specs.Members.{get_d_in, in_append_left}
use Rattle.lists.specs.Every.{any_out}
use Rattle.theorems.specs.Accepted.{Accepted, TableRight, table_right, tables_few}
use Rattle.partial_rows.specs.Sets.{Patients}
use Rattle.partial_rows.specs.Rows.{holds}
use Rattle.partial_rows.specs.Padding.{zero_bed}
use Rattle.held_region.specs.Stores.{table_at}
use Rattle.bucket_words.specs.Words.{member_at}
use Rattle.bucket_words.specs.Kept.{low_stride, kept_at, Kept}
use Rattle.buckets.specs.Terms.{highest, place_at, Numbered}
use Rattle.buckets.specs.Highest.{in_bucket, highest_in, none_higher}
use Rattle.search.specs.Lowest.{Upward}
use Rattle.search.specs.Walks.{PlacesKept}
use Rattle.bucket_words.specs.declared.TableTerm.{TableTerm}

-- Where nobody has a bed, each place is 0.
pub kept_start : (terms : List TableTerm) → Kept terms (replicate 32 0) (replicate 64 0)
unfolding kept_at
kept_start terms = record { long = refl; each = λ k h. zero_bed 64 k ∙ sym (nothing k) }
  where
    slot : (k j : ℕ) → bed_of (replicate 32 0) (member_at terms k j) * low_stride terms k j ≡ 0
    slot k j = ap (λ b. b * low_stride terms k j) (zero_bed 32 (member_at terms k j)) ∙ zero-mul (low_stride terms k j)

    nothing : (k : ℕ) → kept_at terms k (replicate 32 0) ≡ 0
    nothing k = omega (arith, slot k 0, slot k 1, slot k 2)

module _ {terms : List TableTerm} {places : List ℕ} (beds : List ℕ) (s : ℕ) where
  -- Bed 0 counts for one who has none, and another bed comes in the place of the one before.
  pub kept_none : bed_of beds s ≡ 0 → Kept terms beds places → Kept terms (set beds s 0) places
  kept_none none kept = subst (λ l. Kept terms l places) (sym (ap (set beds s) (sym none) ∙ set-get_or beds s 0)) kept

  pub kept_again : (a b : ℕ) → Kept terms (set (set beds s a) s b) places → Kept terms (set beds s b) places
  kept_again a b kept = subst (λ l. Kept terms l places) (set-set beds s a b) kept

  pub kept_left : (a : ℕ) → bed_of beds s ≡ 0 → Kept terms (set (set beds s a) s 0) places → Kept terms beds places
  kept_left a none kept = subst (λ l. Kept terms l places) (set-set beds s a 0 ∙ ap (set beds s) (sym none) ∙ set-get_or beds s 0) kept

module _ {r : Region} {store : List ℕ} {terms : List TableTerm} (accepted : Accepted r) (numbered : Numbered r (λ t. true) store terms) {beds places : List ℕ} (kept : Kept terms beds places)
    (long : length r.patients ≤ length beds) where
  right : (k : ℕ) → k < length r.tables → TableRight r (table_at r k)
  right k h = table_right r accepted (get_d_in r.tables k _ h)

  -- The kept place and the bed of the highest member are the place worked out from all members.
  place_of : (k s : ℕ) → k < length r.tables → highest s (table_at r k) ≡ true → get_or places k 0 + bed_of beds s ≡ place_in r beds (table_at r k)
  place_of k s h top =
      let term = numbered.term k h refl in
      let known : s < length beds = omega (arith, long, (right k h).known (highest_in s (table_at r k) top)) in
      let same = ap (place_at terms k) (set-get_or beds s 0) in
      let each = kept.each k (omega (arith, tables_few r accepted)) in
      omega (arith, term.beside s (bed_of beds s) beds top known, same, term.place beds, each)

  -- Of a table with a member who is left, the highest member is left too and has no bed.
  module _ {left : Patients} (upward : Upward r left) (unplaced : (s : ℕ) → left s ≡ true → bed_of beds s ≡ 0) where
    left_place : (k : ℕ) → k < length r.tables → holds left (table_at r k) ≡ true → get_or places k 0 ≡ place_in r beds (table_at r k)
    unfolding constraints
    left_place k h e =
        let t = table_at r k in
        let s = get_or t.members (length t.members - 1) 0 in
        let top : highest s t ≡ true = in_bucket s t (right k h).some (right k h).rising ∙ eq-eqb s s refl in
        let (a, i, is) = any_out left t.members e in
        let mine : left s ≡ true = elim (ℕ_discrete a s) [
          | yes same ↦ ap left (sym same) ∙ is
          | no other ↦ upward t (in_append_left _ (get_d_in r.tables k _ h)) a i is s (highest_in s t top) (omega (arith, other, none_higher s t top a i))
        ] in
        omega (arith, place_of k s h top, unplaced s mine)

    pub kept_places_lem : PlacesKept r left beds places
    kept_places_lem = record { place = left_place; every = place_of }
