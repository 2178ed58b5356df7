-- The items of a list one after the other.
use Rattle.std.proofs.Math.Path.{sym, ap}
use Rattle.std.proofs.Common.{◌∙◌, eqb-true, ◌≡◌, ◌&&◌, ◌∷◌, ◌++◌}
use Rattle.std.proofs.lemmas.Bool.{false≢true}
use Prim.Native.Char.{code}
use Rattle.definitions.specs.Basics.{ℕ, refl, Bool, true, false, not, cond, Option, none, some, bind, option_map, List, [], eqb, every, is_empty, none_or, on_all}
use Rattle.definitions.specs.Layout.{Reader, ◌>>=◌, ◌>>◌, give, give_if, many, passing, word, whole, pieces, onto_first, items}
use Rattle.lists.specs.Tests.{both}
use Rattle.scanner.specs.Spans.{take_while, drop_while, take_while_on, drop_while_on, many_span, take_while_passes, drop_while_fails}
use Rattle.scanner.specs.Separators.{separator}

-- Is a byte inside a list? Is it inside an item? A list ends at its bracket, an item at a space too.
abbrev in_list : ℕ → Bool
in_list b = not (eqb b (code ")"))

abbrev pub in_item : ℕ → Bool
in_item b = not (eqb b (code " ")) && in_list b

-- The three kinds of bytes of a list.
data Kind (b : ℕ) : Type 0 where
  space : b ≡ code " " → Kind b
  close : b ≡ code ")" → Kind b
  plain : eqb b (code " ") ≡ false → eqb b (code ")") ≡ false → Kind b

kind : (b : ℕ) → Kind b
kind b = go (eqb b (code " ")) refl (eqb b (code ")")) refl
  where
    go : (t : Bool) → eqb b (code " ") ≡ t → (u : Bool) → eqb b (code ")") ≡ u → Kind b
    go true e u q = space (eqb-true b (code " ") e)
    go false e true q = close (eqb-true b (code ")") q)
    go false e false q = plain e q

-- The items after the opening bracket.
unfoldable pub items_from : {A : Type 0} → Reader ℕ A → Reader ℕ (List A)
items_from item = do inside ← many (passing in_list); word ")"; give_if (on_all (whole item) (pieces inside))

pub items_open : {A : Type 0} (item : Reader ℕ A) (xs : List ℕ) → items item xs ≡ (do word "("; items_from item) xs
unfolding items items_from
items_open item xs = refl

-- By what stands after a list's first item: the pieces that follow it, and what follows the list.
abbrev more_pieces : List ℕ → List (List ℕ)
more_pieces [] = []
more_pieces (b ∷ bs) = elim (eqb b (code " ")) [ true ↦ pieces (take_while in_list bs) | false ↦ [] ]

abbrev after_list : List ℕ → List ℕ
after_list [] = []
after_list (b ∷ bs) = elim (eqb b (code " ")) [ true ↦ drop_while in_list bs | false ↦ b ∷ bs ]

module _ (b : ℕ) (bs : List ℕ) where
  piece_by : Kind b → pieces (take_while in_list bs) ≡ take_while in_item bs ∷ more_pieces (drop_while in_item bs) → pieces (take_while in_list (b ∷ bs)) ≡ take_while in_item (b ∷ bs) ∷ more_pieces (drop_while in_item (b ∷ bs))
  piece_by (space e) ih = rw e
  piece_by (close e) ih = rw e
  piece_by (plain e q) ih = rw (take_while_on in_list b bs (rw q), take_while_on in_item b bs (rw (e, q)), drop_while_on in_item b bs (rw (e, q)), e, pieces) (ap (onto_first b) ih)

  after_by : Kind b → drop_while in_list bs ≡ after_list (drop_while in_item bs) → drop_while in_list (b ∷ bs) ≡ after_list (drop_while in_item (b ∷ bs))
  after_by (space e) ih = rw e
  after_by (close e) ih = rw e
  after_by (plain e q) ih = rw (drop_while_on in_list b bs (rw q), drop_while_on in_item b bs (rw (e, q))) ih

first_piece : (xs : List ℕ) → pieces (take_while in_list xs) ≡ take_while in_item xs ∷ more_pieces (drop_while in_item xs)
first_piece [] = refl
first_piece (b ∷ bs) = piece_by b bs (kind b) (first_piece bs)

after_list_lem : (xs : List ℕ) → drop_while in_list xs ≡ after_list (drop_while in_item xs)
after_list_lem [] = refl
after_list_lem (b ∷ bs) = after_by b bs (kind b) (after_list_lem bs)

-- An item reader that looks at nothing behind an item: it reads an item alone as it does before other bytes, and leaves none of those.
pub record Bounded {A : Type 0} (item : Reader ℕ A) : Type 0 where
  pub before : (xs : List ℕ) → item xs ≡ option_map (λ r. (r.0, r.1 ++ drop_while in_item xs)) (item (take_while in_item xs))
  pub rest : (p : List ℕ) → every in_item p ≡ true → none_or (λ r. every in_item r.1) (item p) ≡ true

module _ {A : Type 0} (item : Reader ℕ A) where
  -- What follows an item: a space and more items, or the closing bracket.
  unfoldable pub after_item : A → Reader ℕ (List A)
  after_item a = do more ← separator; cond more (do others ← items_from item; give (a ∷ others)) (give (a ∷ []))

  -- The list as its first item and what follows it.
  first_item : (xs : List ℕ) → items_from item xs ≡ bind (word ")" (after_list (drop_while in_item xs))) (λ q. give_if (on_all (whole item) (take_while in_item xs ∷ more_pieces (drop_while in_item xs))) q.1)
  unfolding items_from bind
  first_item xs = rw (many_span in_list xs, first_piece xs, after_list_lem xs)

  -- Where there is no item, what follows does not matter; and an item goes in front of those that follow.
  nowhere : {B C : Type 0} (o : Option B) → bind {B = C} o (λ r. none) ≡ none
  unfolding bind
  nowhere none = refl
  nowhere (some b) = refl

  onto_all : (a : A) (w : Option (Unit {0} × List ℕ)) (o : Option (List A)) → bind w (λ q. give_if (option_map (λ l. a ∷ l) o) q.1) ≡ bind (bind w (λ q. give_if o q.1)) (λ r. give (a ∷ r.0) r.1)
  unfolding bind
  onto_all a none o = refl
  onto_all a (some q) none = refl
  onto_all a (some q) (some l) = refl

  -- After a whole item.
  after_whole : (a : A) (b : ℕ) (bs : List ℕ) → Kind b → in_item b ≡ false
      → bind (word ")" (after_list (b ∷ bs))) (λ q. give_if (option_map (λ l. a ∷ l) (on_all (whole item) (more_pieces (b ∷ bs)))) q.1) ≡ after_item a (b ∷ bs)
  unfolding after_item items_from separator bind
  after_whole a b bs (space e) f = rw (e, many_span in_list bs) (onto_all a (word ")" (drop_while in_list bs)) (on_all (whole item) (pieces (take_while in_list bs))))
  after_whole a b bs (close e) f = rw e
  after_whole a b bs (plain e q) f = absurd (false≢true (sym f ∙ rw (e, q)))

  -- After the end, or before another byte of the item, nothing follows.
  after_end : (a : A) → after_item a [] ≡ none
  unfolding after_item separator bind
  after_end a = refl

  after_part : (a : A) (y : ℕ) (zs : List ℕ) → Kind y → in_item y ≡ true → after_item a (y ∷ zs) ≡ none
  unfolding after_item separator bind
  after_part a y zs (space e) h = absurd (false≢true (sym (ap in_item e) ∙ h))
  after_part a y zs (close e) h = absurd (false≢true (sym (ap in_item e) ∙ h))
  after_part a y zs (plain e q) h = rw (e, q)

  -- After what an item's reader leaves, which must be nothing.
  after_item_lem : (a : A) (ys : List ℕ) → every in_item ys ≡ true → (c : List ℕ) → ((b : ℕ) (bs : List ℕ) → c ≡ b ∷ bs → in_item b ≡ false)
      → bind (word ")" (after_list c)) (λ q. give_if (bind (cond (is_empty ys) (some a) none) (λ a. option_map (λ l. a ∷ l) (on_all (whole item) (more_pieces c)))) q.1) ≡ after_item a (ys ++ c)
  unfolding bind
  after_item_lem a [] h [] f = sym (after_end a)
  after_item_lem a [] h (b ∷ bs) f = after_whole a b bs (kind b) (f b bs refl)
  after_item_lem a (y ∷ ys) h c f = nowhere (word ")" (after_list c)) ∙ sym (after_part a y (ys ++ c) (kind y) (both (in_item y) h).0)

  -- One after the other: a list is an item and what follows it.
  pub items_step : Bounded item → (xs : List ℕ) → items_from item xs ≡ (do a ← item; after_item a) xs
  unfolding bind
  items_step k xs = first_item xs ∙ go (item (take_while in_item xs)) refl ∙ ap (λ o. bind o (λ r. after_item r.0 r.1)) (sym (k.before xs))
    where
      go : (o : Option (A × List ℕ)) → item (take_while in_item xs) ≡ o
          → bind (word ")" (after_list (drop_while in_item xs))) (λ q. give_if (bind (bind o (λ r. cond (is_empty r.1) (some r.0) none)) (λ a. option_map (λ l. a ∷ l) (on_all (whole item) (more_pieces (drop_while in_item xs))))) q.1)
          ≡ bind {A = A × List ℕ} (option_map (λ r. (r.0, r.1 ++ drop_while in_item xs)) o) (λ r. after_item r.0 r.1)
      go none e = nowhere (word ")" (after_list (drop_while in_item xs)))
      go (some r) e =
          after_item_lem r.0 r.1 (sym (ap (none_or (λ r. every in_item r.1)) e) ∙ k.rest (take_while in_item xs) (take_while_passes in_item xs)) (drop_while in_item xs) (drop_while_fails in_item xs)

  -- The same for a loop: read an item, then a separator, until the list is closed.
  module _ (k : Bounded item) {xs : List ℕ} where
    pub items_missing : item xs ≡ none → items_from item xs ≡ none
    unfolding bind
    items_missing e = items_step k xs ∙ rw e

    module _ {a : A} {ys : List ℕ} (e : item xs ≡ some (a, ys)) where
      next : items_from item xs ≡ after_item a ys
      unfolding bind
      next = items_step k xs ∙ rw e

      pub items_more : {zs : List ℕ} → separator ys ≡ some (true, zs) → items_from item xs ≡ option_map (λ r. (a ∷ r.0, r.1)) (items_from item zs)
      unfolding bind after_item
      items_more {zs} q = next ∙ rw q (go (items_from item zs))
        where
          go : (o : Option (List A × List ℕ)) → bind {B = List A × List ℕ} o (λ r. some (a ∷ r.0, r.1)) ≡ option_map (λ r. (a ∷ r.0, r.1)) o
          go none = refl
          go (some r) = refl

      pub items_last : {zs : List ℕ} → separator ys ≡ some (false, zs) → items_from item xs ≡ some (a ∷ [], zs)
      unfolding bind after_item
      items_last q = next ∙ rw q

      pub items_broken : separator ys ≡ none → items_from item xs ≡ none
      unfolding bind after_item
      items_broken q = next ∙ rw q
