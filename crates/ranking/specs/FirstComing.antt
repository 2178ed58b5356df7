-- What first comes in a list: of the images of its elements, and of a beginning of it.
use Rattle.std.specs.Prelude.{◌≡◌, refl, ◌≤◌}
use Rattle.std.proofs.Common.{sym, ap, ◌∙◌, inl, inr, arith, ◌∷◌, ◌++◌}
use Rattle.definitions.specs.Basics.{suc, Bool, true, false, List, [], map, length, any, first_occurrences}
use Rattle.lists.specs.Members.{◌∈◌, here, there, here_or_there}
use Rattle.lists.specs.Every.{any_in, any_out}
use Rattle.ranking.specs.Occurrences.{Tests}

module _ {A : Type 0} (alike : A → A → Bool) where
  -- One step: what was seen before is passed over, what was not is kept.
  passed : (seen l : List A) (x : A) → any (alike x) seen ≡ true → first_occurrences alike seen (x ∷ l) ≡ first_occurrences alike seen l
  passed seen l x e = rw (e, first_occurrences) refl

  kept : (seen l : List A) (x : A) → any (alike x) seen ≡ false → first_occurrences alike seen (x ∷ l) ≡ x ∷ first_occurrences alike (x ∷ seen) l
  kept seen l x e = rw (e, first_occurrences) refl

  pub first_few : (seen l : List A) → length (first_occurrences alike seen l) ≤ length l
  first_few seen [] = omega arith
  first_few seen (x ∷ l) = go (any (alike x) seen) refl (first_few seen l) (first_few (x ∷ seen) l)
    where
      go : (b : Bool) → any (alike x) seen ≡ b → length (first_occurrences alike seen l) ≤ length l → length (first_occurrences alike (x ∷ seen) l) ≤ length l
          → length (first_occurrences alike seen (x ∷ l)) ≤ suc (length l)
      go true e h k = omega (arith, ap length (passed seen l x e))
      go false e h k = omega (arith, ap length (kept seen l x e))

  -- What first comes in a beginning of a list is a beginning of what first comes in the list.
  pub first_begins : (seen xs ys : List A) → (rest : List A) × (first_occurrences alike seen (xs ++ ys) ≡ first_occurrences alike seen xs ++ rest)
  first_begins seen [] ys = (first_occurrences alike seen ys, refl)
  first_begins seen (x ∷ xs) ys = go (any (alike x) seen) refl (first_begins seen xs ys) (first_begins (x ∷ seen) xs ys)
    where
      go : (b : Bool) → any (alike x) seen ≡ b → (rest : List A) × (first_occurrences alike seen (xs ++ ys) ≡ first_occurrences alike seen xs ++ rest)
          → (rest : List A) × (first_occurrences alike (x ∷ seen) (xs ++ ys) ≡ first_occurrences alike (x ∷ seen) xs ++ rest)
          → (rest : List A) × (first_occurrences alike seen (x ∷ xs ++ ys) ≡ first_occurrences alike seen (x ∷ xs) ++ rest)
      go true e (rest, is) new = (rest, passed seen (xs ++ ys) x e ∙ is ∙ ap (λ (l : List A). l ++ rest) (sym (passed seen xs x e)))
      go false e old (rest, is) = (rest, kept seen (xs ++ ys) x e ∙ ap {B = List A} (λ l. x ∷ l) is ∙ ap (λ (l : List A). l ++ rest) (sym (kept seen xs x e)))

-- Let h make like things of like ones. Which images first come can be read off the things that first come.
module _ {A B K : Type 0} {alike : A → A → Bool} {key : B → K} {test : B → B → Bool} (tests : Tests key test) (h : A → B)
    (keeps : (x y : A) → alike x y ≡ true → key (h x) ≡ key (h y)) where
  -- The images of what was seen were seen too; so are those of what is like it.
  abbrev Known : List A → List B → Type 0
  Known seen gone = (y : A) → y ∈ seen → any (test (h y)) gone ≡ true

  known_like : (seen : List A) (gone : List B) → Known seen gone → (x : A) → any (alike x) seen ≡ true → any (test (h x)) gone ≡ true
  known_like seen gone known x e =
      let (y, k, like) = any_out (alike x) seen e in
      let (b, i, same) = any_out (test (h y)) gone (known y k) in
      any_in (test (h x)) gone i (tests.same_alike (h x) b (keeps x y like ∙ tests.alike_same (h y) b same))

  known_more : (seen : List A) (gone : List B) (x : A) → Known seen gone → any (test (h x)) gone ≡ true → Known (x ∷ seen) gone
  known_more seen gone x known new y k = elim (here_or_there k) [ inl e ↦ rw e new | inr i ↦ known y i ]

  known_wider : (seen : List A) (gone : List B) (b : B) → Known seen gone → Known seen (b ∷ gone)
  known_wider seen gone b known y k = let (z, i, same) = any_out (test (h y)) gone (known y k) in any_in (test (h y)) (b ∷ gone) (there i) same

  abbrev images : List B → List A → List B
  images gone l = first_occurrences test gone (map h l)

  pub first_images : (seen : List A) (gone : List B) (l : List A) → Known seen gone → images gone (first_occurrences alike seen l) ≡ images gone l
  first_images seen gone [] known = refl
  first_images seen gone (x ∷ l) known = go (any (alike x) seen) (any (test (h x)) gone) refl refl
      (first_images seen gone l known) (first_images (x ∷ seen) gone l) (first_images (x ∷ seen) (h x ∷ gone) l)
    where
      go : (b c : Bool) → any (alike x) seen ≡ b → any (test (h x)) gone ≡ c → images gone (first_occurrences alike seen l) ≡ images gone l
          → (Known (x ∷ seen) gone → images gone (first_occurrences alike (x ∷ seen) l) ≡ images gone l)
          → (Known (x ∷ seen) (h x ∷ gone) → images (h x ∷ gone) (first_occurrences alike (x ∷ seen) l) ≡ images (h x ∷ gone) l)
          → images gone (first_occurrences alike seen (x ∷ l)) ≡ images gone (x ∷ l)
      go true c e d old seen_too new = ap (images gone) (passed alike seen l x e) ∙ old ∙ sym (passed test gone (map h l) (h x) (known_like seen gone known x e))
      go false true e d old seen_too new =
          ap (images gone) (kept alike seen l x e) ∙ passed test gone (map h (first_occurrences alike (x ∷ seen) l)) (h x) d
          ∙ seen_too (known_more seen gone x known d) ∙ sym (passed test gone (map h l) (h x) d)
      go false false e d old seen_too new =
          let self = any_in (test (h x)) (h x ∷ gone) (here refl) (tests.same_alike (h x) (h x) refl) in
          ap (images gone) (kept alike seen l x e) ∙ kept test gone (map h (first_occurrences alike (x ∷ seen) l)) (h x) d
          ∙ ap {B = List B} (λ k. h x ∷ k) (new (known_more seen (h x ∷ gone) x (known_wider seen gone (h x) known) self))
          ∙ sym (kept test gone (map h l) (h x) d)
