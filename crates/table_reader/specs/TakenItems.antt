-- A loop that takes one item of a list after the other: what was taken and what is left to read is the whole list.
use Rattle.std.specs.Prelude.{◌≡◌, refl, ◌≤◌, drop}
use Rattle.std.proofs.Common.{sym, ap, ◌∙◌, arith, length-append, ◌<◌, ◌∷◌, ◌++◌}
use Rattle.std.proofs.Math.Seq.{append_snoc}
use Rattle.definitions.specs.Basics.{ℕ, true, false, Option, none, some, option_map, bind, List, [], length}
use Rattle.definitions.specs.Layout.{Reader, word, items}
use Rattle.scanner.specs.Answers.{ReadAt}
use Rattle.scanner.specs.Separators.{separator, separator_ahead}
use Rattle.scanner.specs.Items.{Bounded, items_from, items_open, items_missing, items_more, items_last, items_broken}

-- What was read, put in front of what is read after it.
abbrev onto : {A : Type 0} → List A → Option (List A × List ℕ) → Option (List A × List ℕ)
onto done o = option_map (λ r. (done ++ r.0, r.1)) o

onto_none : {A : Type 0} (o : Option (List A × List ℕ)) → onto [] o ≡ o
onto_none none = refl
onto_none (some r) = refl

onto_more : {A : Type 0} (done : List A) (a : A) (o : Option (List A × List ℕ)) → onto done (option_map (λ r. (a ∷ r.0, r.1)) o) ≡ onto (done ++ a ∷ []) o
onto_more done a none = refl
onto_more {A} done a (some r) = ap {B = Option (List A × List ℕ)} (λ l. some (l, r.1)) (sym (append_snoc done a r.0))

-- Of the list at place `at`, the items before place i are taken.
pub record ItemsTaken {A : Type 0} (item : Reader ℕ A) (s : List ℕ) (at : ℕ) (done : List A) (i : ℕ) : Type 0 where
  pub goes_on : items item (drop at s) ≡ onto done (items_from item (drop i s))
  pub ahead : at ≤ i
  pub few : length done ≤ i

-- The list is read: these items, and the place after it.
pub record ListRead {A : Type 0} (item : Reader ℕ A) (s : List ℕ) (at : ℕ) (said : List A) (next : ℕ) : Type 0 where
  pub read : items item (drop at s) ≡ some (said, drop next s)
  pub ahead : at ≤ next
  pub within : next ≤ length s
  pub few : length said ≤ next

module _ {A : Type 0} {item : Reader ℕ A} {s : List ℕ} {at : ℕ} where
  -- The opening bracket is there.
  pub items_start : {start : ℕ} → ReadAt (word "(") s at (some (tt, start)) → ItemsTaken item s at [] start
  unfolding bind
  items_start {start} h = record {
    goes_on = items_open item (drop at s) ∙ rw (sym h.says) (sym (onto_none (items_from item (drop start s))));
    ahead = h.ahead.0;
    few = omega arith;
  }

  module _ (k : Bounded item) {done : List A} {i : ℕ} (t : ItemsTaken item s at done i) where
    -- There is no item.
    pub items_no_item : ReadAt item s i none → items item (drop at s) ≡ none
    items_no_item h = t.goes_on ∙ ap (onto done) (items_missing item k (sym h.says))

    module _ {a : A} {end : ℕ} (h : ReadAt item s i (some (a, end))) where
      -- An item, with a space and more after it; with the closing bracket; with neither.
      pub items_next : {next : ℕ} → ReadAt separator s end (some (true, next)) → ItemsTaken item s at (done ++ a ∷ []) next × (i < next) × (next ≤ length s)
      items_next {next} q = let (on, in_s) = separator_ahead q in let up = h.ahead.0 in (
        record {
          goes_on = t.goes_on ∙ ap (onto done) (items_more item k (sym h.says) (sym q.says)) ∙ onto_more done a (items_from item (drop next s));
          ahead = omega (arith, t.ahead);
          few = omega (arith, t.few, length-append done (a ∷ []));
        },
        omega arith,
        in_s,
      )

      pub items_closed : {next : ℕ} → ReadAt separator s end (some (false, next)) → ListRead item s at (done ++ a ∷ []) next
      items_closed {next} q = let (on, in_s) = separator_ahead q in let up = h.ahead.0 in record {
        read = t.goes_on ∙ ap (onto done) (items_last item k (sym h.says) (sym q.says));
        ahead = omega (arith, t.ahead);
        within = in_s;
        few = omega (arith, t.few, length-append done (a ∷ []));
      }

      pub items_no_separator : ReadAt separator s end none → items item (drop at s) ≡ none
      items_no_separator q = t.goes_on ∙ ap (onto done) (items_broken item k (sym h.says) (sym q.says))

-- It is not there.
pub items_no_list : {A : Type 0} (item : Reader ℕ A) {s : List ℕ} {at : ℕ} → ReadAt (word "(") s at none → items item (drop at s) ≡ none
unfolding bind
items_no_list item {s} {at} h = items_open item (drop at s) ∙ rw (sym h.says)
