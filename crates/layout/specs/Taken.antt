-- A loop that takes one line of a slice after the other takes what `many` takes.
use Rattle.std.specs.Prelude.{◌≡◌, ◌≤◌, max, take, drop}
use Rattle.std.proofs.Math.Path.{refl, ap}
use Rattle.std.proofs.Common.{sym, ◌∙◌, append-nil, arith, length-append, drop_of_length-le, ◌-◌, ◌<◌, ◌∷◌, ◌++◌}
use Rattle.std.proofs.Math.Seq.{append_snoc}
use Rattle.definitions.specs.Basics.{ℕ, Option, none, some, option_map, bind, List, [], length}
use Rattle.definitions.specs.Layout.{many, lines}
use Rattle.line_reader.specs.Answers.{LineEnd}

module _ {I A : Type 0} (f : I → Option A) where
  -- What was read, put in front of what is read after it.
  abbrev pub after : List A → Option (List A × List I) → Option (List A × List I)
  after done o = option_map (λ r. (done ++ r.0, r.1)) o

  after_none : (o : Option (List A × List I)) → after [] o ≡ o
  after_none none = refl
  after_none (some r) = refl

  -- A line that is taken; one that is not; no line.
  many_taken : (done : List A) (x : I) (xs : List I) (a : A) → f x ≡ some a → after done (many f (x ∷ xs)) ≡ after (done ++ a ∷ []) (many f xs)
  unfolding bind
  many_taken done x xs a e = rw (e, many) (go (many f xs))
    where
      go : (o : Option (List A × List I)) → after done (bind o (λ r. some (a ∷ r.0, r.1))) ≡ after (done ++ a ∷ []) o
      go none = refl
      go (some r) = ap {B = Option (List A × List I)} (λ l. some (l, r.1)) (sym (append_snoc done a r.0))

  many_left : (done : List A) (x : I) (xs : List I) → f x ≡ none → after done (many f (x ∷ xs)) ≡ some (done, x ∷ xs)
  many_left done x xs e = rw (e, many) (ap {B = Option (List A × List I)} (λ l. some (l, x ∷ xs)) (append-nil done))

  many_ended : (done : List A) → after done (many f []) ≡ some (done, [])
  many_ended done = ap {B = Option (List A × List I)} (λ l. some (l, [])) (append-nil done)

-- From place `at` on, the lines up to place i are taken.
pub record Taken {A : Type 0} (f : List ℕ → Option A) (s : List ℕ) (at : ℕ) (done : List A) (i : ℕ) : Type 0 where
  pub goes_on : many f (lines (drop at s)) ≡ after f done (many f (lines (drop i s)))
  pub ahead : at ≤ i
  pub within : i ≤ max at (length s)
  pub few : length done ≤ i

module _ {A : Type 0} {f : List ℕ → Option A} {s : List ℕ} {at : ℕ} where
  pub taken_none : Taken f s at [] at
  taken_none = record { goes_on = sym (after_none f (many f (lines (drop at s)))); ahead = omega arith; within = omega arith; few = omega arith }

  module _ {done : List A} {i : ℕ} (t : Taken f s at done i) where
    -- One more line.
    pub taken_more : {end : ℕ} {a : A} → LineEnd s i end → i < length s → f (take (end - i) (drop i s)) ≡ some a → Taken f s at (done ++ a ∷ []) end
    taken_more {end} {a} e h q = record {
      goes_on = t.goes_on ∙ ap (λ ls. after f done (many f ls)) (e.splits h) ∙ many_taken f done (take (end - i) (drop i s)) (lines (drop end s)) a q;
      ahead = omega (arith, t.ahead, e.ahead);
      within = omega (arith, e.within);
      few = omega (arith, length-append done (a ∷ []), t.few, e.ahead);
    }

    -- A line that is not taken; no line.
    pub taken_other : {end : ℕ} → LineEnd s i end → i < length s → f (take (end - i) (drop i s)) ≡ none → many f (lines (drop at s)) ≡ some (done, lines (drop i s))
    taken_other {end} e h q =
        t.goes_on ∙ ap (λ ls. after f done (many f ls)) (e.splits h) ∙ many_left f done (take (end - i) (drop i s)) (lines (drop end s)) q
        ∙ ap {B = Option (List A × List (List ℕ))} (λ ls. some (done, ls)) (sym (e.splits h))

    pub taken_all : length s ≤ i → many f (lines (drop at s)) ≡ some (done, lines (drop i s))
    taken_all h =
        let ended : drop i s ≡ [] = drop_of_length-le s h in
        t.goes_on ∙ ap (λ l. after f done (many f (lines l))) ended ∙ many_ended f done
        ∙ ap {B = Option (List A × List (List ℕ))} (λ l. some (done, lines l)) (sym ended)
