-- Words moved six places further, and what a list is once a row is written into the gap.
use mathlib.Core.Path.{◌≡◌, refl, sym, ap, ◌∙◌, subst}
use mathlib.Core.Logic.{◌⊎◌, inl, inr}
use native.Mathlib.Decide.{dec_lt, ℕ_discrete}
use native.Mathlib.Numerals.{add-one}
use native.Mathlib.Omega.{arith}
use Prim.Native.Nat.{◌≤◌}
use lib.ListN.{drop, length-append, length-take, length-drop, get_or-append}
use lib.Seq.{ext_get_or, get_or-drop, get_or-take, get_or_at, get_or-append-add, length-take-le, take_at, take_all}
use Rattle.std.specs.Prelude.{◌+◌, ◌-◌, ◌*◌, ◌<◌, ◌∷◌, ◌++◌}
use Rattle.definitions.specs.Basics.{ℕ, suc, List, length, get_or, take, insert, min}
use Rattle.definitions.specs.Plans as Said
use Rattle.definitions.specs.Plans.{compare_rows}
use Rattle.packed_rows.specs.Packed.{row_of}
use Rattle.packed_rows.specs.declared.Row.{Row}
use Rattle.row_list.specs.Rows.{whole_row, whole_rows, Stored, Room, Inserted}
use Rattle.row_list.specs.Laws.{row_words, rows_long, rows_at}
use Rattle.lists.specs.Members.{◌∈◌, in_take, in_drop, here_or_there, in_append_cases}
use Rattle.ranking.specs.Rising.{Rising}
use Rattle.theorems.specs.List.{row_order}
use Rattle.std.specs.List.{CopiedTo, SameBelow}
use Rattle.row_list.specs.Steps.{Place, Moved}

-- A list with one more element at a place.
abbrev put_at : {A : Type 0} → ℕ → A → List A → List A
put_at p z l = take p l ++ z ∷ drop p l

module _ {A : Type 0} (p : ℕ) (z d : A) (l : List A) (h : p ≤ length l) where
  front : length (take p l) ≡ p
  front = length-take-le p l h

  put_long : length (put_at p z l) ≡ suc (length l)
  put_long = length-append (take p l) (z ∷ drop p l) ∙ omega (arith, front, length-drop p l)

  put_below : (k : ℕ) → k < p → get_or (put_at p z l) k d ≡ get_or l k d
  put_below k t = get_or-append (take p l) (z ∷ drop p l) d k (omega (arith, front)) ∙ get_or-take p l k d t

  put_here : get_or (put_at p z l) p d ≡ z
  put_here = get_or_at (take p l) z (drop p l) d p front

  put_above : (j : ℕ) → p ≤ j → get_or (put_at p z l) (suc j) d ≡ get_or l j d
  put_above j t =
      let q : suc j ≡ length (take p l) + suc (j - p) = omega (arith, front) in
      let r : p + (j - p) ≡ j = omega arith in
      ap (λ (i : ℕ). get_or (put_at p z l) i d) q ∙ get_or-append-add (take p l) (z ∷ drop p l) (suc (j - p)) d ∙ get_or-drop p l (j - p) d ∙ ap (λ (i : ℕ). get_or l i d) r

-- What is in it is the element or one of the list's.
put_members : {A : Type 0} (p : ℕ) (z : A) (l : List A) {y : A} → y ∈ put_at p z l → (y ≡ z) ⊎ (y ∈ l)
put_members p z l k = elim (in_append_cases (take p l) k) [
  | inl t ↦ inr (in_take p l t)
  | inr t ↦ elim (here_or_there t) [ inl e ↦ inl e | inr u ↦ inr (in_drop p l u) ]
]

-- The rows from one on up to another are copied one row further.
pub gap_made : (p end : ℕ) (area after : List ℕ) → p ≤ end → length after ≡ length area → CopiedTo area after (p * 6) (p * 6 + 6) (end * 6 - p * 6) → SameBelow area after (p * 6 + 6)
    → Moved (p * 6 + 6) (end * 6 + 6) area after
gap_made p end area after h long copied same = record {
  low = λ k t. same k 0 t;
  moved = λ k t u. let e : p * 6 + (k - (p * 6 + 6)) ≡ k - 6 = omega arith in copied k 0 t (omega arith) ∙ ap (λ (i : ℕ). get_or area i 0) e;
  long = long;
}

-- The rows of the area once there is a gap and the row is written into it.
module _ (n m : ℕ) (x : Row) (area shifted after : List ℕ) (p end : ℕ) (room : Room n m area) (place : Place n x area p) (fits : p ≤ end) (last : min m (suc n) ≡ suc end)
    (moved : Moved (p * 6 + 6) (end * 6 + 6) area shifted) (stored : Stored p x shifted after) where
  below_gap : (j : ℕ) → j < p → whole_row after j ≡ whole_row area j
  below_gap j h =
      stored.others j (λ q. omega arith)
      ∙ row_words j j shifted area (λ k l. moved.low (j * 6 + k) (omega arith))

  above_gap : (j : ℕ) → p ≤ j → j < end → whole_row after (suc j) ≡ whole_row area j
  above_gap j h l =
      stored.others (suc j) (λ q. omega arith)
      ∙ row_words (suc j) j shifted area (λ k t.
      let e : suc j * 6 + k - 6 ≡ j * 6 + k = omega arith in
      moved.moved (suc j * 6 + k) (omega arith) (omega arith) ∙ ap (λ (q : ℕ). get_or area q 0) e)

  row_at : (k : ℕ) → k ≤ end → whole_row after k ≡ get_or (put_at p (row_of x) (whole_rows n area)) k (row_of x)
  row_at k h = elim (dec_lt k p) [
    | yes l ↦ below_gap k l ∙ rows_at n area k z (omega (arith, place.within)) ∙ sym (put_below p z z rows inside k l)
    | no l ↦ elim (ℕ_discrete k p) [ yes e ↦ rw e (stored.row ∙ sym (put_here p z z rows inside)) | no e ↦ later (k - 1) (omega arith) (omega arith) ]
  ]
    where
      z : Said.Row
      z = row_of x

      rows : List Said.Row
      rows = whole_rows n area

      inside : p ≤ length rows
      inside = rw (rows_long n area) place.within

      later : (j : ℕ) → k ≡ suc j → p ≤ j → whole_row after k ≡ get_or (put_at p z rows) k z
      later j e l = rw e (above_gap j l (omega arith) ∙ rows_at n area j z (omega arith) ∙ sym (put_above p z z rows inside j l))

  pub inserted : Inserted n m x area after (end + 1)
  inserted = record {
    count = omega arith;
    rows = λ rising. put_rows ∙ sym (ap (take m) (place.here rising));
    members = λ y k. put_members p (row_of x) (whole_rows n area) (in_take m put (subst (λ (l : List Said.Row). y ∈ l) put_rows k));
    long = stored.long ∙ moved.long;
  }
    where
      z : Said.Row
      z = row_of x

      put : List Said.Row
      put = put_at p z (whole_rows n area)

      put_is : length put ≡ suc n
      put_is = put_long p z z (whole_rows n area) (rw (rows_long n area) place.within) ∙ ap suc (rows_long n area)

      long : length (whole_rows (end + 1) after) ≡ length (take m put)
      long = rows_long (end + 1) after ∙ add-one end ∙ sym (length-take m put ∙ ap (min m) put_is ∙ last)

      same : (k : ℕ) → k < length (whole_rows (end + 1) after) → get_or (whole_rows (end + 1) after) k z ≡ get_or (take m put) k z
      same k l =
          let t : k < end + 1 = omega (arith, rows_long (end + 1) after) in
          sym (rows_at (end + 1) after k z t) ∙ row_at k (omega arith) ∙ sym (get_or-take m put k z (omega arith))

      put_rows : whole_rows (end + 1) after ≡ take m put
      put_rows = ext_get_or z (whole_rows (end + 1) after) (take m put) long same

-- A row that comes after all of a full list.
pub not_inserted : (n m : ℕ) (x : Row) (area : List ℕ) → Room n m area → Place n x area m → Inserted n m x area area n
not_inserted n m x area room place = record { count = room.held; rows = same; members = λ y k. inr k; long = refl }
  where
    rows : List Said.Row
    rows = whole_rows n area

    same : Rising row_order rows → rows ≡ take m (insert compare_rows (row_of x) rows)
    same rising = sym (ap (take m) (place.here rising) ∙ take_at (take m rows) (row_of x ∷ drop m rows) m (length-take-le m rows (omega (arith, place.within, rows_long n area))) ∙ take_all m rows (omega (arith, room.held, rows_long n area)))
