-- A clinic's part of the beds, taken from the lowest patient on; and what a plan costs.
use mathlib.Core.Path.{◌≡◌, refl, sym, ap, ◌∙◌}
use mathlib.Core.List.{append_assoc, append-nil}
use Prim.Native.Nat.{◌≤◌}
use native.Mathlib.Numerals.{add-one}
use native.Mathlib.Omega.{arith}
use borrow.Author.Tests.{ltb-true}
use lib.ListN.{set, length-set, replicate}
use lib.Seq.{take-suc-set}
use Rattle.std.specs.Prelude.{◌+◌, ◌<◌, ◌∷◌, ◌++◌}
use Rattle.definitions.specs.Basics.{ℕ, true, List, [], map, length, take, ltb, every}
use Rattle.lists.specs.Tests.{both}
use Rattle.definitions.specs.Plans.{bed_of}
use Rattle.patient_set.specs.Sets.{members}
use Rattle.patient_set.specs.Laws.{size_most, all_patients}
use Rattle.sheets.specs.Steps.{PartTaken}

-- The beds taken so far, and then those of the patients that are left, are those of all.
pub record Taking (beds all left : List ℕ) (j : ℕ) (taken : List ℕ) : Type 0 where
  pub long : length taken ≡ 32
  pub few : length all ≤ 32
  pub known : every (λ q. ltb q 32) left ≡ true
  pub place : j + length left ≡ length all
  pub is : take j taken ++ map (bed_of beds) left ≡ map (bed_of beds) all

pub taking_start : (beds : List ℕ) (w : ℕ) {left : List ℕ} → left ≡ members w → Taking beds (members w) left 0 (replicate 32 0)
taking_start beds w is = rw is (record { long = refl; few = size_most w; known = all_patients w; place = omega arith; is = refl })

module _ {beds all left : List ℕ} {j : ℕ} {taken : List ℕ} (t : Taking beds all left j taken) where
  module _ {s : ℕ} {rest : List ℕ} (e : left ≡ s ∷ rest) where
    known_parts : (ltb s 32 ≡ true) × (every (λ q. ltb q 32) rest ≡ true)
    known_parts = both (ltb s 32) (sym (ap (every (λ q. ltb q 32)) e) ∙ t.known)

    pub taking_known : s < 32
    taking_known = ltb-true s 32 known_parts.0

    pub taking_room : j < 32
    taking_room = omega (arith, t.place, t.few, ap length e)

    pub taking_next : Taking beds all rest (j + 1) (set taken j (bed_of beds s))
    taking_next =
        record {
          long = simp length-set t.long;
          few = t.few;
          known = known_parts.1;
          place = omega (arith, t.place, ap length e);
          is =
              rw add-one
              (ap (λ l. l ++ map (bed_of beds) rest) (take-suc-set taken j (bed_of beds s) (omega (arith, t.long, taking_room)))
              ∙ append_assoc (take j taken) (bed_of beds s ∷ []) (map (bed_of beds) rest)
              ∙ ap (λ l. take j taken ++ map (bed_of beds) l) (sym e) ∙ t.is);
        }

  pub taking_done : left ≡ [] → PartTaken beds all taken
  taking_done end =
      let whole : length all ≡ j = omega (arith, t.place, ap length end) in
      ap (λ n. take n taken) whole ∙ sym (append-nil (take j taken)) ∙ ap (λ l. take j taken ++ map (bed_of beds) l) (sym end) ∙ t.is
