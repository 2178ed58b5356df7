-- Laws of readers: each reads one spelling of what it gives, and reads it wherever it stands at the front.
use Rattle.std.proofs.Common.{sym, ◌∙◌, append-nil, map-id, eqb-true, eq-eqb, ◌≡◌, ◌∷◌, ◌++◌}
use Rattle.std.proofs.Math.Path.{ap}
use Rattle.std.proofs.lemmas.Bool.{false≢true}
use Rattle.std.proofs.Math.Option.{bind-eq-some_iff, map-eq-some_iff, some-injective, none-ne-some}
use Prim.Native.String.{String}
use Rattle.definitions.specs.Basics.{ℕ, refl, Bool, true, false, cond, Option, none, some, bind, option_map, List, [], map}
use Rattle.definitions.specs.Basics.{eqb, text, every, is_empty, on_all}
use Rattle.definitions.specs.Layout.{Reader, give_if, give, whole, one, many, passing, exactly, word}
use Rattle.lists.specs.Tests.{both, join}

-- What may stand after what was read: anything, or nothing that the function would take too.
abbrev pub Anything : {I : Type 0} → List I → Type 0
Anything xs = Unit {0}

abbrev pub Stops : {I A : Type 0} → (I → Option A) → List I → Type 0
Stops f [] = Unit {0}
Stops f (x ∷ xs) = f x ≡ none

-- What was read is spelled at the front, and passes a test.
abbrev Spelt : {I A : Type 0} → (A → List I) → (A → Bool) → List I → A → List I → Type 0
Spelt spell ok xs a rest = (ok a ≡ true) × (xs ≡ spell a ++ rest)

module _ {I A : Type 0} where
  -- A function takes the spellings of what passes a test, and nothing else.
  pub record Takes (f : I → Option A) (spell : A → I) (ok : A → Bool) : Type 0 where
    pub only : {x : I} {a : A} → f x ≡ some a → (ok a ≡ true) × (x ≡ spell a)
    pub each : (a : A) → ok a ≡ true → f (spell a) ≡ some a

  -- A reader reads them at the front of a list, and nothing else.
  pub record Reads (reader : Reader I A) (spell : A → List I) (ok : A → Bool) (Before : List I → Type 0) : Type 0 where
    pub only : {xs rest : List I} {a : A} → reader xs ≡ some (a, rest) → (ok a ≡ true) × (xs ≡ spell a ++ rest)
    pub each : (a : A) (rest : List I) → ok a ≡ true → Before rest → reader (spell a ++ rest) ≡ some (a, rest)

-- A value under a condition.
pub cond_only : {A : Type 0} (t : Bool) {a b : A} → cond t (some a) none ≡ some b → (t ≡ true) × (a ≡ b)
cond_only true {a} {b} e = (refl, some-injective a b e)
cond_only false {b = b} e = absurd (none-ne-some b e)

-- One reader and then another: what the first read, and the rest for the second.
module _ {I A B : Type 0} {reader : Reader I A} {spell : A → List I} {ok : A → Bool} {Before : List I → Type 0}
    (law : Reads reader spell ok Before) (next : A × List I → Option B) where
  pub then_only : (xs : List I) {b : B} {Goal : Type 0} → bind (reader xs) next ≡ some b
      → ((a : A) (rest : List I) → ok a ≡ true → xs ≡ spell a ++ rest → next (a, rest) ≡ some b → Goal) → Goal
  then_only xs e goal =
      let (r, read, on) = (bind-eq-some_iff (reader xs) next).0 e in
      let (ok_a, xs_is) = law.only read in
      goal r.0 r.1 ok_a xs_is on

  pub then_each : (a : A) (rest : List I) → ok a ≡ true → Before rest → bind (reader (spell a ++ rest)) next ≡ next (a, rest)
  unfolding bind
  then_each a rest h b = ap (λ (o : Option (A × List I)). bind o next) (law.each a rest h b)

-- A reader that must leave nothing over.
pub empty_is : {A : Type 0} (l : List A) → is_empty l ≡ true → l ≡ []
empty_is [] h = refl
empty_is (x ∷ l) h = absurd (false≢true h)

pub whole_takes : {I A : Type 0} {reader : Reader I A} {spell : A → List I} {ok : A → Bool} {Before : List I → Type 0}
    → Reads reader spell ok Before → Before [] → Takes (whole reader) spell ok
whole_takes {I} {A} {reader} {spell} {ok} law h = record {
  only = λ {x} e. then_only law _ x e λ a rest ok_a xs_is ends.
      let (nothing, same) = cond_only (is_empty rest) ends in
      (rw (← same) ok_a, xs_is ∙ ap (λ (r : List I). spell a ++ r) (empty_is rest nothing) ∙ append-nil (spell a) ∙ ap spell same);
  each = λ a ok_a. ap (whole reader) (sym (append-nil (spell a))) ∙ then_each law _ a [] ok_a h;
}

-- A value given without reading; one that there may not be.
pub gives_same : {I A : Type 0} {a b : A} {xs ys : List I} → give a xs ≡ some (b, ys) → (a ≡ b) × (xs ≡ ys)
gives_same {I} {A} {a} {b} {xs} {ys} e =
    let same = some-injective (a, xs) (b, ys) e in
    (ap {B = A} (λ r. r.0) same, ap {B = List I} (λ r. r.1) same)

pub gives_only : {I A : Type 0} {b : A} {xs ys : List I} (o : Option A) → give_if o xs ≡ some (b, ys) → (o ≡ some b) × (xs ≡ ys)
gives_only none e = absurd (none-ne-some _ e)
gives_only {A = A} (some a) e = let same = gives_same e in (ap {B = Option A} some same.0, same.1)

-- Of two spellings at the front of one list, both are the same.
pub one_front : {I A : Type 0} {reader : Reader I A} {spell : A → List I} {ok : A → Bool} → Reads reader spell ok Anything
    → {a b : A} (more rest : List I) → ok a ≡ true → ok b ≡ true → spell a ++ more ≡ spell b ++ rest → a ≡ b
one_front {reader = reader} law {a} {b} more rest ok_a ok_b e =
    (gives_same (sym (law.each a more ok_a tt) ∙ ap reader e ∙ law.each b rest ok_b tt)).0

-- Where `many` stops, and where it goes on.
module _ {I A : Type 0} (f : I → Option A) (x : I) (xs : List I) where
  many_stop : f x ≡ none → many f (x ∷ xs) ≡ give [] (x ∷ xs)
  many_stop e = rw (e, many)

  many_go : {a : A} → f x ≡ some a → many f (x ∷ xs) ≡ bind (many f xs) (λ r. give (a ∷ r.0) r.1)
  many_go e = rw (e, many)

-- One element; as many as the function takes; the results on all elements.
module _ {I A : Type 0} {f : I → Option A} {spell : A → I} {ok : A → Bool} (law : Takes f spell ok) where
  pub one_reads : Reads (one f) (λ a. spell a ∷ []) ok Anything
  one_reads = record { only = λ {xs} e. front xs e; each = λ a rest ok_a h. ap (λ (o : Option A). give_if o rest) (law.each a ok_a) }
    where
      front : {rest : List I} {a : A} (xs : List I) → one f xs ≡ some (a, rest) → Spelt (λ a. spell a ∷ []) ok xs a rest
      front [] e = absurd (none-ne-some _ e)
      front (x ∷ xs) e =
          let (took, rest_is) = gives_only (f x) e in
          let (ok_a, x_is) = law.only took in
          (ok_a, λ i. x_is i ∷ rest_is i)

  -- Nothing more was read; or one more, and the others after it.
  none_more : {xs rest : List I} {l : List A} → give [] xs ≡ some (l, rest) → Spelt (map spell) (every ok) xs l rest
  none_more {rest = rest} e =
      let (l_is, rest_is) = gives_same e in
      (ap (every ok) (sym l_is), rest_is ∙ ap (λ (l : List A). map spell l ++ rest) l_is)

  one_more_lem : {rest : List I} {l : List A} (x : I) (xs : List I) (o : Option A) → f x ≡ o
      → ((m : List A) → many f xs ≡ some (m, rest) → Spelt (map spell) (every ok) xs m rest)
      → many f (x ∷ xs) ≡ some (l, rest) → Spelt (map spell) (every ok) (x ∷ xs) l rest
  one_more_lem x xs none took others e = none_more (sym (many_stop f x xs took) ∙ e)
  one_more_lem {rest} x xs (some a) took others e =
      let (r, read, is) = (bind-eq-some_iff (many f xs) (λ r. give (a ∷ r.0) r.1)).0 (sym (many_go f x xs took) ∙ e) in
      let (l_is, rest_is) = gives_same is in
      let (ok_a, x_is) = law.only took in
      let (ok_m, xs_is) = others r.0 (read ∙ (λ i. some (r.0, rest_is i))) in
      (rw (← l_is) (join ok_a ok_m), (λ i. x_is i ∷ xs_is i) ∙ ap (λ (l : List A). map spell l ++ rest) l_is)

  many_only : {rest : List I} {l : List A} (xs : List I) → many f xs ≡ some (l, rest) → Spelt (map spell) (every ok) xs l rest
  many_only [] e = none_more e
  many_only {rest} {l} (x ∷ xs) e = one_more_lem x xs (f x) refl (λ m. many_only {rest = rest} {l = m} xs) e

  many_each : (l : List A) (rest : List I) → every ok l ≡ true → Stops f rest → many f (map spell l ++ rest) ≡ some (l, rest)
  unfolding bind
  many_each [] [] h stops = refl
  many_each [] (x ∷ rest) h stops = many_stop f x rest stops
  many_each (a ∷ l) rest h stops =
      let (ok_a, ok_l) = both (ok a) h in
      many_go f (spell a) (map spell l ++ rest) (law.each a ok_a) ∙ rw (many_each l rest ok_l stops)

  pub many_reads : Reads (many f) (map spell) (every ok) (Stops f)
  many_reads = record { only = λ {xs} e. many_only xs e; each = many_each }

  all_only : {l : List A} (xs : List I) → on_all f xs ≡ some l → (every ok l ≡ true) × (xs ≡ map spell l)
  all_only {l} [] e = let is = some-injective [] l e in (ap (every ok) (sym is), ap (map spell) is)
  all_only {l} (x ∷ xs) e =
      let (a, took, rest_took) = (bind-eq-some_iff (f x) (λ a. option_map (λ l. a ∷ l) (on_all f xs))).0 e in
      let (m, others, is) = (map-eq-some_iff (λ l. a ∷ l) (on_all f xs)).0 rest_took in
      let (ok_a, x_is) = law.only took in
      let (ok_m, xs_is) = all_only {l = m} xs others in
      (rw (← is) (join ok_a ok_m), (λ i. x_is i ∷ xs_is i) ∙ ap (map spell) is)

  all_each : (l : List A) → every ok l ≡ true → on_all f (map spell l) ≡ some l
  unfolding bind
  all_each [] h = refl
  all_each (a ∷ l) h =
      let (ok_a, ok_l) = both (ok a) h in
      rw (law.each a ok_a, all_each l ok_l)

  pub all_takes : Takes (on_all f) (map spell) (every ok)
  all_takes = record { only = λ {x} e. all_only x e; each = all_each }

-- A byte that passes a test; as many as pass it; exactly some bytes; a text.
passing_takes : (test : ℕ → Bool) → Takes (passing test) (λ b. b) test
passing_takes test = record {
  only = λ {x} e. let (passes, same) = cond_only (test x) e in (rw (← same) passes, same);
  each = λ b h. ap (λ (t : Bool). cond t (some b) none) h;
}

pub passing_reads : (test : ℕ → Bool) → Reads (many (passing test)) (λ l. l) (every test) (Stops (passing test))
passing_reads test =
    let law = many_reads (passing_takes test) in
    record {
      only = λ {xs} {rest} {a} e. let (ok, is) = law.only e in (ok, is ∙ ap (λ (m : List ℕ). m ++ rest) (map-id a));
      each = λ l rest ok h. ap (λ (m : List ℕ). many (passing test) (m ++ rest)) (sym (map-id l)) ∙ law.each l rest ok h;
    }

pub exactly_reads : (bytes : List ℕ) → Reads (exactly bytes) (λ u. bytes) (λ u. true) Anything
exactly_reads bytes = record { only = λ {xs} e. (refl, only_these bytes e); each = λ u rest ok h. these bytes rest }
  where
    only_these : (bytes : List ℕ) {xs rest : List ℕ} {u : Unit {0}} → exactly bytes xs ≡ some (u, rest) → xs ≡ bytes ++ rest
    only_these [] e = (gives_same e).1
    only_these (b ∷ bytes) {xs} e = then_only (one_reads (passing_takes (eqb b))) _ xs e λ c rest same xs_is after.
        xs_is ∙ λ i. sym (eqb-true b c same) i ∷ only_these bytes after i

    these : (bytes rest : List ℕ) → exactly bytes (bytes ++ rest) ≡ some (tt, rest)
    these [] rest = refl
    these (b ∷ bytes) rest = then_each (one_reads (passing_takes (eqb b))) _ b (bytes ++ rest) (eq-eqb b b refl) tt ∙ these bytes rest

pub word_reads : (s : String) → Reads (word s) (λ u. text s) (λ u. true) Anything
word_reads s = exactly_reads (text s)
