-- What is left to store, byte by byte and number by number.
use mathlib.Core.Path.{ap, ap₂, sym, ◌∙◌}
use Prim.Native.Nat.{◌≤◌}
use native.Mathlib.Numerals.{add-one}
use native.Mathlib.Omega.{arith}
use mir.Val.{bool_byte}
use lib.ListN.{drop, drop_of_length-le}
use lib.Seq.{drop-cons, drop-drop}
use borrow.Rule.Slice.PartMut.{put_mid}
use Rattle.std.specs.Int.{w64, to_le_bytes}
use Rattle.std.proofs.lemmas.List.Edits.{sets-eq}
use native.Mathlib.Nat as nat
use Rattle.std.proofs.Common.{append_assoc}
use Rattle.std.specs.Prelude.{◌+◌, ◌*◌, ◌<◌, ◌≡◌, ◌++◌}
use Rattle.definitions.specs.Basics.{ℕ, suc, refl, List, Bool, true, false, cond, length, get_or, take, sets}
use Rattle.definitions.specs.Outcomes.{written}
use Rattle.definitions.specs.Boundary.{bytes_of}

-- The eight bytes of a number, as the machine's conversion gives them and as document 01 says them.
pub bytes_same : (n : ℕ) → to_le_bytes w64 n ≡ bytes_of 8 n
bytes_same n = simp nat.div-div-eq-div-mul

-- An area whose part from place `at` on holds them.
pub bytes_put : (at n : ℕ) (area : List ℕ) {size : ℕ} {part : List ℕ} → at + 8 ≤ length area → size ≡ 8 → part ≡ to_le_bytes w64 n
    → put_mid at size area part ≡ sets area at (bytes_of 8 n)
bytes_put at n area room eight is =
    ap₂ (λ k p. put_mid at k area p) eight (is ∙ bytes_same n)
    ∙ ap (λ rest. take at area ++ (bytes_of 8 n ++ rest)) (drop-drop 8 at area)
    ∙ sym (append_assoc (take at area) (bytes_of 8 n) (drop (at + 8) area))
    ∙ sym (sets-eq (bytes_of 8 n) area at room)

-- A loop over numbers that stand from number `at` on: the area once those from number i on are stored.
unfoldable pub numbers_left : ℕ → List ℕ → ℕ → List ℕ → List ℕ
numbers_left at numbers i area = written (at + i) 8 (bytes_of 8) (drop i numbers) area

module _ (at : ℕ) (numbers area : List ℕ) where
  pub numbers_all : numbers_left at numbers 0 area ≡ written at 8 (bytes_of 8) numbers area
  unfolding numbers_left
  numbers_all =
      let start : at + 0 ≡ at = omega arith in
      ap (λ k. written k 8 (bytes_of 8) numbers area) start

  pub numbers_next : {x k : ℕ} {after : List ℕ} (i : ℕ) → i < length numbers → x ≡ get_or numbers i 0 → k ≡ (at + i) * 8 → after ≡ sets area k (bytes_of 8 x)
      → numbers_left at numbers (i + 1) after ≡ numbers_left at numbers i area
  unfolding numbers_left
  numbers_next i inside at_i place stored =
      let next : at + (i + 1) ≡ suc (at + i) = omega arith in
      rw (stored, place, at_i, next, add-one i, drop-cons numbers i 0 inside)

  pub numbers_done : (i : ℕ) → length numbers ≤ i → area ≡ numbers_left at numbers i area
  unfolding numbers_left
  numbers_done i all = rw (drop_of_length-le numbers all)

-- A flag as a number, as the machine has it and as document 01 says it.
pub flag_number : (b : Bool) → bool_byte b ≡ cond b 1 0
flag_number true = refl
flag_number false = refl
