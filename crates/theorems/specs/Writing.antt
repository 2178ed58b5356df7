-- What stands in an area after rows of one width were written to it.
use Rattle.std.specs.Prelude.{◌≡◌, refl, length, take, drop, ◌≤◌}
use Rattle.std.proofs.Common.{sym, ap, ap₂, ◌∙◌, append_assoc, arith, length-append, take-append-drop, take_at, drop-drop, length-take-le, ◌+◌, ◌*◌, ◌∷◌, ◌++◌}
use Rattle.std.proofs.lemmas.List.Edits.{sets, sets-eq}
use Rattle.std.proofs.Math.Seq.{length-sets, drop-append-add}
use Rattle.definitions.specs.Basics.{ℕ, zero, suc, List, [], flat_map}
use Rattle.definitions.specs.Outcomes.{written}
use Rattle.lists.specs.Members.{◌∈◌, here, there}

-- One row of w values at place i: the front with the row, and what is beyond it.
module _ (area vs : List ℕ) (i w : ℕ) (wide : length vs ≡ w) (fits : i + w ≤ length area) where
  one_row : sets area i vs ≡ (take i area ++ vs) ++ drop (i + w) area
  one_row = sets-eq vs area i (omega arith) ∙ ap (λ (k : ℕ). (take i area ++ vs) ++ drop (i + k) area) wide

  front : length (take i area ++ vs) ≡ i + w
  front = length-append (take i area) vs ∙ ap₂ (λ (x y : ℕ). x + y) (length-take-le i area (omega arith)) wide

  take_row : take (i + w) (sets area i vs) ≡ take i area ++ vs
  take_row = ap (take (i + w)) one_row ∙ take_at (take i area ++ vs) (drop (i + w) area) (i + w) front

  drop_row : (n : ℕ) → drop (i + w + n) (sets area i vs) ≡ drop (i + w + n) area
  drop_row n =
      ap (drop (i + w + n)) one_row
      ∙ ap (λ (k : ℕ). drop (k + n) ((take i area ++ vs) ++ drop (i + w) area)) (sym front)
      ∙ drop-append-add (take i area ++ vs) (drop (i + w) area) n
      ∙ drop-drop n (i + w) area

-- Row r stands from r × width on; what is before the first and beyond the last is as it was.
pub written_is : {A : Type 0} (values : A → List ℕ) (width r : ℕ) (xs : List A) (area : List ℕ) → ((x : A) → x ∈ xs → length (values x) ≡ width)
    → (r + length xs) * width ≤ length area
    → written r width values xs area ≡ take (r * width) area ++ (flat_map values xs ++ drop ((r + length xs) * width) area)
unfolding flat_map
written_is values width r [] area wide fits = sym (ap (λ (k : ℕ). take (r * width) area ++ drop k area) same ∙ take-append-drop (r * width) area)
  where
    same : (r + zero) * width ≡ r * width
    same = ap (λ (k : ℕ). k * width) (omega arith)
written_is values width r (x ∷ xs) area wide fits =
    written_is values width (suc r) xs after (λ y i. wide y (there i)) (omega (arith, length-sets area at (values x)))
    ∙ ap₂ (λ (a b : List ℕ). a ++ (flat_map values xs ++ b))
    (ap (λ (k : ℕ). take k after) next ∙ take_row area (values x) at width (wide x (here refl)) room)
    (ap (λ (k : ℕ). drop k after) end ∙ drop_row area (values x) at width (wide x (here refl)) room (length xs * width) ∙ ap (λ (k : ℕ). drop k area) (sym end ∙ same))
    ∙ simp append_assoc
  where
    at : ℕ
    at = r * width

    after : List ℕ
    after = sets area at (values x)

    next : suc r * width ≡ at + width
    next = omega arith

    end : (suc r + length xs) * width ≡ at + width + length xs * width
    end = omega arith

    same : (suc r + length xs) * width ≡ (r + suc (length xs)) * width
    same = omega arith

    room : at + width ≤ length area
    room = omega arith
