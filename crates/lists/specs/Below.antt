-- The numbers from a on, and those below n; what a function gives there, and what tests say of them.
use Rattle.std.proofs.Common.{sym, ap, ap₂, ◌∙◌, inl, inr, append_assoc, append-nil, eq-or-lt_of_le, arith, eqb-true, ne_eqb, ext_get_or, get_or-take, length-take-le, ◌+◌, ◌<◌, ◌≡◌, ◌&&◌, ◌∷◌, ◌++◌}
use Rattle.std.proofs.Math.Bool.{and_assoc, and-true}
use Rattle.std.proofs.lemmas.List.{map-append, length-map}
use Rattle.std.proofs.lemmas.Bool.{eqb-false}
use Rattle.std.specs.Prelude.{◌≤◌}
use Rattle.definitions.specs.Basics.{ℕ, zero, suc, refl, Bool, true, false, cond, eqb}
use Rattle.definitions.specs.Basics.{List, [], map, length, get_or, take, numbers_from, below, every, keep, contains}
use Rattle.lists.specs.Members.{◌∈◌, here, there, here_or_there, none_in_nil, Enumerates}
use Rattle.lists.specs.Every.{every_in, every_same, every_map, contains_in}
use Rattle.lists.specs.Keep.{keep_same, keep_none}
use Rattle.lists.specs.Maps.{map_same}

pub numbers_enumerate : (a n : ℕ) → Enumerates (λ x. (a ≤ x) × (x < a + n)) (numbers_from a n)
numbers_enumerate a zero = record { distinct = tt; only = λ x k. absurd (none_in_nil k); every = λ x h. absurd (omega arith) }
numbers_enumerate a (suc n) = let ih = numbers_enumerate (suc a) n in record {
  distinct = (λ k. omega (arith, (ih.only a k).0), ih.distinct);
  only = λ x k. elim (here_or_there k) [ inl e ↦ (omega arith, omega arith) | inr t ↦ (omega (arith, (ih.only x t).0), omega (arith, (ih.only x t).1)) ];
  every = λ x h. elim (eq-or-lt_of_le h.0) [ inl e ↦ here (sym e) | inr t ↦ there (ih.every x (t, omega (arith, h.1))) ];
}

pub below_in : (n : ℕ) {s : ℕ} → s < n → s ∈ below n
below_in n {s} h = (numbers_enumerate 0 n).every s (omega arith, omega arith)

pub below_out : (n s : ℕ) → s ∈ below n → s < n
below_out n s k = omega (arith, ((numbers_enumerate 0 n).only s k).1)

pub contains_numbers : (k n q : ℕ) → k ≤ q → q < k + n → contains (numbers_from k n) q ≡ true
contains_numbers k n q h l = contains_in (numbers_from k n) ((numbers_enumerate k n).every q (h, l))

-- ---- what a function gives there

numbers_long : (a n : ℕ) → length (numbers_from a n) ≡ n
numbers_long a zero = refl
numbers_long a (suc n) = ap suc (numbers_long (suc a) n)

pub below_long : (n : ℕ) → length (below n) ≡ n
below_long n = numbers_long 0 n

numbers_more : (a n : ℕ) → numbers_from a (suc n) ≡ numbers_from a n ++ ((a + n) ∷ [])
numbers_more a zero = let e : a + 0 ≡ a = omega arith in rw e
numbers_more a (suc n) = let e : suc a + n ≡ a + suc n = omega arith in ap (λ (l : List ℕ). a ∷ l) (numbers_more (suc a) n ∙ rw e)

-- One number more.
pub below_next : (n : ℕ) → below (suc n) ≡ below n ++ (n ∷ [])
below_next n = let e : 0 + n ≡ n = omega arith in rw e at (numbers_more 0 n)

module _ {A : Type 0} where
  -- As many elements as there are places.
  pub length_by_places : (g : ℕ → A) (k n : ℕ) → length (map g (numbers_from k n)) ≡ n
  length_by_places g k n = length-map (numbers_from k n) g ∙ numbers_long k n

  -- What stands at a place is what the function gives there.
  numbers_at : (g : ℕ → A) (d : A) (k n i : ℕ) → i < n → get_or (map g (numbers_from k n)) i d ≡ g (k + i)
  numbers_at g d k zero i h = absurd (omega arith)
  numbers_at g d k (suc n) zero h = ap g (omega arith)
  numbers_at g d k (suc n) (suc i) h = numbers_at g d (suc k) n i (omega arith) ∙ ap g (omega arith)

  pub at_place : (g : ℕ → A) (d : A) (n i : ℕ) → i < n → get_or (map g (below n)) i d ≡ g i
  at_place g d n i h = numbers_at g d 0 n i h ∙ ap g (omega arith)

  -- A function that gives at each place what stands there gives the list.
  pub by_places_lem : (g : ℕ → A) (d : A) (n : ℕ) (xs : List A) → length xs ≡ n → ((i : ℕ) → i < n → g i ≡ get_or xs i d) → map g (below n) ≡ xs
  by_places_lem g d n xs e same = ext_get_or d (map g (below n)) xs (length_by_places g 0 n ∙ sym e)
      (λ i h. let l : i < n = omega (arith, length_by_places g 0 n) in at_place g d n i l ∙ same i l)

  pub by_number : (l : List A) (d : A) → map (λ s. get_or l s d) (below (length l)) ≡ l
  by_number l d = by_places_lem (λ s. get_or l s d) d (length l) l refl (λ i h. refl)

  -- One place more.
  pub below_more : (g : ℕ → A) (n : ℕ) → map g (below (suc n)) ≡ map g (below n) ++ (g n ∷ [])
  below_more g n = ap (map g) (below_next n) ∙ map-append g (below n) (n ∷ [])

  -- So many places, and so many behind them.
  pub below_parts : (g : ℕ → A) (a b : ℕ) → map g (below (a + b)) ≡ map g (below a) ++ map (λ k. g (a + k)) (below b)
  below_parts g a zero =
      let all : a + 0 ≡ a = omega arith in
      ap (λ n. map g (below n)) all ∙ sym (append-nil (map g (below a)))
  below_parts g a (suc b) =
      let next : a + suc b ≡ suc (a + b) = omega arith in
      ap (λ n. map g (below n)) next ∙ below_more g (a + b) ∙ ap (λ l. l ++ g (a + b) ∷ []) (below_parts g a b)
      ∙ append_assoc (map g (below a)) (map (λ k. g (a + k)) (below b)) (g (a + b) ∷ [])
      ∙ ap (λ l. map g (below a) ++ l) (sym (below_more (λ k. g (a + k)) b))

  -- It depends on the function's values there alone.
  pub below_same : (f g : ℕ → A) (n : ℕ) → ((j : ℕ) → j < n → f j ≡ g j) → map f (below n) ≡ map g (below n)
  below_same f g n same = map_same f g (below n) (λ j k. same j (below_out n j k))

-- A list's first numbers are what stands at its places.
pub below_take : (f : ℕ → ℕ) (l : List ℕ) (n : ℕ) → n ≤ length l → ((j : ℕ) → j < n → f j ≡ get_or l j 0) → map f (below n) ≡ take n l
below_take f l n h same = by_places_lem f 0 n (take n l) (length-take-le n l h) (λ i k. same i k ∙ sym (get_or-take n l i 0 k))

-- Two stand-ins past the end that a function does not tell apart.
pub same_default : {A B : Type 0} (f : A → B) (d e : A) → f d ≡ f e → (xs : List A) (i : ℕ) → f (get_or xs i d) ≡ f (get_or xs i e)
same_default f d e same [] i = same
same_default f d e same (x ∷ xs) zero = refl
same_default f d e same (x ∷ xs) (suc i) = same_default f d e same xs i

-- ---- tests

-- A test of all elements is a test of all places.
pub every_by_places : {A : Type 0} (f : A → Bool) (d : A) (n : ℕ) (xs : List A) → length xs ≡ n → every f xs ≡ every (λ i. f (get_or xs i d)) (below n)
every_by_places f d n xs e = ap (every f) (sym (by_places_lem (λ i. get_or xs i d) d n xs e (λ i l. refl))) ∙ every_map f (λ i. get_or xs i d) (below n)

-- What every place passes, each passes.
pub every_place : (f : ℕ → Bool) (n i : ℕ) → every f (below n) ≡ true → i < n → f i ≡ true
every_place f n i all h = every_in f (below n) all (below_in n h)

-- Two tests that agree there give the same answer and keep the same.
module _ (f g : ℕ → Bool) where
  pub same_tests : (n : ℕ) → ((i : ℕ) → i < n → f i ≡ g i) → every f (below n) ≡ every g (below n)
  same_tests n same = every_same f g (below n) (λ i k. same i (below_out n i k))

  pub same_keep : (k n : ℕ) → ((q : ℕ) → k ≤ q → q < k + n → f q ≡ g q) → keep f (numbers_from k n) ≡ keep g (numbers_from k n)
  same_keep k n same = keep_same f g (numbers_from k n) (λ q i. let (h, l) = (numbers_enumerate k n).only q i in same q h l)

-- A test that one number passes keeps that one.
keep_one_from : (k n s : ℕ) → k ≤ s → s < k + n → keep (eqb s) (numbers_from k n) ≡ s ∷ []
keep_one_from k zero s h l = absurd (omega arith)
keep_one_from k (suc n) s h l = go (eqb s k) refl (λ other. keep_one_from (suc k) n s (omega (arith, other)) (omega arith))
  where
    go : (b : Bool) → eqb s k ≡ b → ((s ≡ k → ⊥) → keep (eqb s) (numbers_from (suc k) n) ≡ s ∷ []) → cond b (k ∷ keep (eqb s) (numbers_from (suc k) n)) (keep (eqb s) (numbers_from (suc k) n)) ≡ s ∷ []
    go true e later =
        let same : s ≡ k = eqb-true s k e in
        ap₂ {C = List ℕ} (λ x r. x ∷ r) (sym same) (keep_none (eqb s) (numbers_from (suc k) n) (λ q i. ne_eqb s q (λ z. omega (arith, ((numbers_enumerate (suc k) n).only q i).0))))
    go false e later = later (eqb-false s k e)

pub keep_one : (n s : ℕ) → s < n → keep (eqb s) (below n) ≡ s ∷ []
keep_one n s h = keep_one_from 0 n s (omega arith) (omega arith)

module _ (f : ℕ → Bool) where
  -- A test that fails from v on keeps what it keeps of the first v numbers.
  pub keep_front : (k v n : ℕ) → v ≤ n → ((q : ℕ) → k + v ≤ q → f q ≡ false) → keep f (numbers_from k n) ≡ keep f (numbers_from k v)
  keep_front k zero zero h none = refl
  keep_front k zero (suc n) h none = rw (none k (omega arith)) (keep_front (suc k) zero n (omega arith) (λ q l. none q (omega arith)))
  keep_front k (suc v) zero h none = absurd (omega arith)
  keep_front k (suc v) (suc n) h none = ap (λ l. cond (f k) (k ∷ l) l) (keep_front (suc k) v n (omega arith) (λ q l. none q (omega arith)))

  -- The numbers one higher.
  pub every_shift : (a n : ℕ) → every f (numbers_from (suc a) n) ≡ every (λ s. f (suc s)) (numbers_from a n)
  every_shift a zero = refl
  every_shift a (suc n) = ap (λ b. f (suc a) && b) (every_shift (suc a) n)

-- One more at the end; the first places, and those after them.
every_last_from : (f : ℕ → Bool) (k n : ℕ) → every f (numbers_from k (suc n)) ≡ (every f (numbers_from k n) && f (k + n))
every_last_from f k zero = and-true (f k) ∙ ap f (omega arith)
every_last_from f k (suc n) =
    let next : suc k + n ≡ k + suc n = omega arith in
    ap (λ b. f k && b) (every_last_from f (suc k) n ∙ ap (λ m. every f (numbers_from (suc k) n) && f m) next)
    ∙ sym (and_assoc (f k) (every f (numbers_from (suc k) n)) (f (k + suc n)))

pub every_last : (f : ℕ → Bool) (n : ℕ) → every f (below (suc n)) ≡ (every f (below n) && f n)
every_last f n =
    let same : 0 + n ≡ n = omega arith in
    every_last_from f 0 n ∙ ap (λ m. every f (below n) && f m) same

pub every_parts : (f : ℕ → Bool) (a b : ℕ) → every f (below (a + b)) ≡ (every f (below a) && every (λ k. f (a + k)) (below b))
every_parts f a zero =
    let same : a + 0 ≡ a = omega arith in
    ap (λ n. every f (below n)) same ∙ sym (and-true (every f (below a)))
every_parts f a (suc b) =
    let next : a + suc b ≡ suc (a + b) = omega arith in
    ap (λ n. every f (below n)) next ∙ every_last f (a + b) ∙ ap (λ x. x && f (a + b)) (every_parts f a b)
    ∙ and_assoc (every f (below a)) (every (λ k. f (a + k)) (below b)) (f (a + b))
    ∙ ap (λ x. every f (below a) && x) (sym (every_last (λ k. f (a + k)) b))
