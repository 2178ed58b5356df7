-- A loop that adds up the least numbers of the buckets of a set, the lowest patient first.
use mathlib.Core.Path.{◌≡◌, sym, ap, ◌∙◌}
use Prim.Native.Nat.{◌≤◌}
use native.Mathlib.Nat.{zero-add}
use native.Mathlib.Omega.{arith}
use Rattle.std.specs.Prelude.{◌+◌, ◌*◌, ◌<◌, ◌∷◌}
use borrow.Author.Tests.{ltb-true}
use Rattle.definitions.specs.Basics.{ℕ, true, List, [], map, length, sum, ltb, every}
use Rattle.lists.specs.Tests.{both}
use Rattle.patient_set.specs.Sets.{members}
use Rattle.patient_set.specs.Laws.{size_most, all_patients}
use Rattle.bucket_words.specs.Words.{least_at}
use Rattle.search.specs.Trees.{LeastSummed}
use Rattle.bucket_words.specs.declared.PatientBucket.{PatientBucket}

-- The sum so far, and the patients that are left.
pub record Adding (patients : List PatientBucket) (all left : List ℕ) (n : ℕ) : Type 0 where
  pub is : n + sum (map (least_at patients) left) ≡ sum (map (least_at patients) all)
  pub room : n + 4_294_967_296 * length left ≤ 137_438_953_472
  pub known : every (λ q. ltb q 32) left ≡ true

pub adding_start : (patients : List PatientBucket) (w : ℕ) {left : List ℕ} → left ≡ members w → Adding patients (members w) left 0
adding_start patients w is = rw is (record { is = zero-add _; room = omega (arith, size_most w); known = all_patients w })

module _ {patients : List PatientBucket} {all left : List ℕ} {n : ℕ} (adding : Adding patients all left n) where
  module _ {s : ℕ} {rest : List ℕ} (e : left ≡ s ∷ rest) where
    known_parts : (ltb s 32 ≡ true) × (every (λ q. ltb q 32) rest ≡ true)
    known_parts = both (ltb s 32) (sym (ap (every (λ q. ltb q 32)) e) ∙ adding.known)

    pub adding_known : s < 32
    adding_known = ltb-true s 32 known_parts.0

    pub adding_room : n + 4_294_967_296 ≤ 137_438_953_472
    adding_room = omega (arith, adding.room, ap length e)

    pub adding_next : {least : ℕ} → least ≡ least_at patients s → least < 4_294_967_296 → Adding patients all rest (n + least)
    adding_next {least} is h =
        record {
          is = let split : sum (map (least_at patients) left) ≡ least_at patients s + sum (map (least_at patients) rest) = ap (λ l. sum (map (least_at patients) l)) e in omega (arith, adding.is);
          room = omega (arith, adding.room, ap length e);
          known = known_parts.1;
        }

  pub adding_done : left ≡ [] → LeastSummed patients all n
  adding_done end =
      let split : sum (map (least_at patients) left) ≡ 0 = ap (λ l. sum (map (least_at patients) l)) end in
      record { is = omega (arith, adding.is); most = omega (arith, adding.room) }
