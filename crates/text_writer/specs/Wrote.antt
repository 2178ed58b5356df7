-- Texts written into a lent area, one after another.
use Rattle.std.specs.Prelude.{◌≡◌, refl, ◌≤◌, set, take, drop}
use Rattle.std.proofs.Math.Path.{sym, ap}
use Rattle.std.proofs.Common.{◌∙◌, arith, take_at, ◌+◌, ◌∷◌, ◌++◌}
use Rattle.std.proofs.Math.ListN.{length-append}
use Rattle.std.proofs.Math.Seq.{length-sets}
use Rattle.std.proofs.lemmas.List.Edits.{sets-eq}
use Rattle.definitions.specs.Basics.{ℕ, suc, List, [], flatten, length, sets}

-- A text has room at a place.
abbrev pub Room : List ℕ → ℕ → List ℕ → Type 0
Room text at out = at + length text ≤ length out

-- A text was written at a place: it stands there, all else is as it was, and the place after it comes back.
pub record Wrote (text : List ℕ) (at : ℕ) (out after : List ℕ) (end : ℕ) : Type 0 where
  pub bytes : after ≡ sets out at text
  pub next : end ≡ at + length text

-- Of a whole text these parts are left: written at the place that was reached, they make the whole written.
pub record Left (whole : List ℕ) (at : ℕ) (out : List ℕ) (parts : List (List ℕ)) (now : List ℕ) (place : ℕ) : Type 0 where
  pub makes : sets now place (flatten parts) ≡ sets out at whole
  pub ends : place + length (flatten parts) ≡ at + length whole
  pub long : length now ≡ length out

-- A text and one after it, written in one go.
sets_both : (l : List ℕ) (i : ℕ) (a b : List ℕ) → sets l i (a ++ b) ≡ sets (sets l i a) (i + length a) b
sets_both l i [] b = let e : i ≡ i + 0 = omega arith in ap (λ (k : ℕ). sets l k b) e
sets_both l i (x ∷ a) b =
    let e : suc i + length a ≡ i + suc (length a) = omega arith in
    sets_both (set l i x) (suc i) a b ∙ ap (λ (k : ℕ). sets (sets (set l i x) (suc i) a) k b) e

-- Nothing is written yet, so all parts are left.
pub none_yet : {whole out : List ℕ} {at : ℕ} (parts : List (List ℕ)) → whole ≡ flatten parts → Left whole at out parts out at
none_yet {whole} {out} {at} parts same = record { makes = ap (sets out at) (sym same); ends = ap (λ (l : List ℕ). at + length l) (sym same); long = refl }

module _ {whole out now : List ℕ} {at place : ℕ} where
  -- The first part that is left has room where the whole had, ..
  pub room_for : {a : List ℕ} {parts : List (List ℕ)} → Left whole at out (a ∷ parts) now place → Room whole at out → Room a place now
  unfolding flatten
  room_for {a} {parts} left room = let l = length-append a (flatten parts) in omega (arith, left.ends, left.long)

  -- .. and once it is written, the parts after it are left.
  pub then_left : {a after : List ℕ} {end : ℕ} {parts : List (List ℕ)} → Left whole at out (a ∷ parts) now place → Wrote a place now after end
      → Left whole at out parts after end
  unfolding flatten
  then_left {a} {after} {end} {parts} left w = record {
    makes = (λ i. sets (w.bytes i) (w.next i) (flatten parts)) ∙ sym (sets_both now place a (flatten parts)) ∙ left.makes;
    ends = (let l = length-append a (flatten parts) in omega (arith, left.ends, w.next));
    long = ap length w.bytes ∙ length-sets now place a ∙ left.long;
  }

  -- No part is left, so the whole is written.
  pub none_left : Left whole at out [] now place → Wrote whole at out now place
  unfolding flatten
  none_left left = record { bytes = left.makes; next = omega (arith, left.ends) }

  -- Other parts that are the same text together are left too.
  pub other_parts : {parts : List (List ℕ)} (others : List (List ℕ)) → flatten parts ≡ flatten others → Left whole at out parts now place
      → Left whole at out others now place
  other_parts others same left = record {
    makes = ap (sets now place) (sym same) ∙ left.makes;
    ends = ap (λ (l : List ℕ). place + length l) (sym same) ∙ left.ends;
    long = left.long;
  }

-- A written text ends inside the area; where it begins with the area, it is what stands there up to its end.
module _ {text out after : List ℕ} {at end : ℕ} (w : Wrote text at out after end) (room : Room text at out) where
  pub ends_inside : end ≤ length after
  ends_inside = omega (arith, w.next, ap length w.bytes, length-sets out at text)

pub taken_back : {text out after : List ℕ} {end : ℕ} → Wrote text 0 out after end → Room text 0 out → take end after ≡ text
taken_back {text} {out} {after} {end} w room =
    ap (take end) (w.bytes ∙ sets-eq text out 0 room) ∙ take_at text (drop (0 + length text) out) end (omega (arith, w.next))
