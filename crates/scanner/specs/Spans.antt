-- A list split before its first element that fails a test: what `many` reads, and what it leaves.
use Rattle.std.proofs.Common.{ap, sym, ◌∙◌, arith, ◌≡◌, ◌∷◌, ◌++◌}
use Rattle.definitions.specs.Basics.{ℕ, refl, Bool, true, false, some, bind, List, [], every}
use Rattle.definitions.specs.Layout.{many, passing}
use Rattle.lists.specs.Tests.{both}

module _ (f : ℕ → Bool) where
  -- What stands before that element, and the rest from it on.
  abbrev pub take_while : List ℕ → List ℕ
  take_while [] = []
  take_while (b ∷ bs) = elim (f b) [ true ↦ b ∷ take_while bs | false ↦ [] ]

  abbrev pub drop_while : List ℕ → List ℕ
  drop_while [] = []
  drop_while (b ∷ bs) = elim (f b) [ true ↦ drop_while bs | false ↦ b ∷ bs ]

  module _ (b : ℕ) (bs : List ℕ) where
    pub take_while_on : f b ≡ true → take_while (b ∷ bs) ≡ b ∷ take_while bs
    take_while_on e = rw (e, take_while)

    pub drop_while_on : f b ≡ true → drop_while (b ∷ bs) ≡ drop_while bs
    drop_while_on e = rw (e, drop_while)

    pub take_while_off : f b ≡ false → take_while (b ∷ bs) ≡ []
    take_while_off e = rw (e, take_while)

    pub drop_while_off : f b ≡ false → drop_while (b ∷ bs) ≡ b ∷ bs
    drop_while_off e = rw (e, drop_while)

  -- `many` never fails: it gives the two parts.
  pub many_span : (xs : List ℕ) → many (passing f) xs ≡ some (take_while xs, drop_while xs)
  unfolding bind
  many_span [] = refl
  many_span (b ∷ bs) = go (f b) refl (many_span bs)
    where
      go : (t : Bool) → f b ≡ t → many (passing f) bs ≡ some (take_while bs, drop_while bs) → many (passing f) (b ∷ bs) ≡ some (take_while (b ∷ bs), drop_while (b ∷ bs))
      go true e ih = rw (take_while_on b bs e, drop_while_on b bs e, e, many) (rw ih)
      go false e ih = rw (take_while_off b bs e, drop_while_off b bs e, e, many)

  -- The two parts make up the list; what was read passes the test, and what is left begins with what fails it.
  pub take_while_drop_while : (xs : List ℕ) → take_while xs ++ drop_while xs ≡ xs
  take_while_drop_while [] = refl
  take_while_drop_while (b ∷ bs) = go (f b) refl (take_while_drop_while bs)
    where
      go : (t : Bool) → f b ≡ t → take_while bs ++ drop_while bs ≡ bs → take_while (b ∷ bs) ++ drop_while (b ∷ bs) ≡ b ∷ bs
      go true e ih = rw (take_while_on b bs e, drop_while_on b bs e) (ap (λ l. b ∷ l) ih)
      go false e ih = rw (take_while_off b bs e, drop_while_off b bs e)

  pub take_while_passes : (xs : List ℕ) → every f (take_while xs) ≡ true
  take_while_passes [] = refl
  take_while_passes (b ∷ bs) = go (f b) refl (take_while_passes bs)
    where
      go : (t : Bool) → f b ≡ t → every f (take_while bs) ≡ true → every f (take_while (b ∷ bs)) ≡ true
      go true e ih = rw (take_while_on b bs e, e) ih
      go false e ih = rw (take_while_off b bs e)

  pub drop_while_fails : (xs : List ℕ) (b : ℕ) (bs : List ℕ) → drop_while xs ≡ b ∷ bs → f b ≡ false
  drop_while_fails [] b bs e = absurd (let z : ◌≡◌ {A = ℕ} 0 1 = cc in omega arith)
  drop_while_fails (x ∷ xs) b bs e = go (f x) refl (drop_while_fails xs b bs)
    where
      go : (t : Bool) → f x ≡ t → (drop_while xs ≡ b ∷ bs → f b ≡ false) → f b ≡ false
      go true q ih = ih (sym (drop_while_on x xs q) ∙ e)
      go false q ih = let z : x ≡ b = cc (drop_while_off x xs q) in rw (← z) q

-- A stricter test reads the same where the list was split by a laxer one first, and leaves the rest of that part.
module _ (f g : ℕ → Bool) (stricter : (b : ℕ) → f b ≡ true → g b ≡ true) where
  pub take_while_take_while : (xs : List ℕ) → take_while f (take_while g xs) ≡ take_while f xs
  take_while_take_while [] = refl
  take_while_take_while (b ∷ bs) = go (f b) refl (g b) refl (take_while_take_while bs)
    where
      go : (t : Bool) → f b ≡ t → (u : Bool) → g b ≡ u → take_while f (take_while g bs) ≡ take_while f bs → take_while f (take_while g (b ∷ bs)) ≡ take_while f (b ∷ bs)
      go true e u q ih = rw (take_while_on g b bs (stricter b e), take_while_on f b (take_while g bs) e, take_while_on f b bs e) (ap (λ l. b ∷ l) ih)
      go false e true q ih = rw (take_while_on g b bs q, take_while_off f b (take_while g bs) e, take_while_off f b bs e)
      go false e false q ih = rw (take_while_off g b bs q, take_while_off f b bs e)

  pub drop_while_take_while : (xs : List ℕ) → drop_while f (take_while g xs) ++ drop_while g xs ≡ drop_while f xs
  drop_while_take_while [] = refl
  drop_while_take_while (b ∷ bs) = go (f b) refl (g b) refl (drop_while_take_while bs)
    where
      go : (t : Bool) → f b ≡ t → (u : Bool) → g b ≡ u → drop_while f (take_while g bs) ++ drop_while g bs ≡ drop_while f bs → drop_while f (take_while g (b ∷ bs)) ++ drop_while g (b ∷ bs) ≡ drop_while f (b ∷ bs)
      go true e u q ih = rw (take_while_on g b bs (stricter b e), drop_while_on g b bs (stricter b e), drop_while_on f b (take_while g bs) e, drop_while_on f b bs e) ih
      go false e true q ih = rw (take_while_on g b bs q, drop_while_on g b bs q, drop_while_off f b (take_while g bs) e, drop_while_off f b bs e) (ap (λ l. b ∷ l) (take_while_drop_while g bs))
      go false e false q ih = rw (take_while_off g b bs q, drop_while_off g b bs q, drop_while_off f b bs e)

-- What is left of a list passes what the whole list passes.
pub drop_while_passes : (f g : ℕ → Bool) (xs : List ℕ) → every g xs ≡ true → every g (drop_while f xs) ≡ true
drop_while_passes f g [] h = refl
drop_while_passes f g (b ∷ bs) h = go (f b) refl (drop_while_passes f g bs (both (g b) h).1)
  where
    go : (t : Bool) → f b ≡ t → every g (drop_while f bs) ≡ true → every g (drop_while f (b ∷ bs)) ≡ true
    go true e ih = rw (drop_while_on f b bs e) ih
    go false e ih = rw (drop_while_off f b bs e) h
