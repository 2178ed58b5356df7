-- Laws of `keep`: what is kept was there and passes.
use Rattle.std.proofs.Common.{sym, ap, ◌∙◌, inl, inr, true≢false, arith, ◌≡◌, ◌&&◌, ◌||◌, ◌∷◌, ◌++◌}
use Rattle.std.specs.Prelude.{◌⊎◌, ◌≤◌}
use Rattle.definitions.specs.Basics.{ℕ, suc, refl, Bool, true, false, not, cond, Option, none, some, option_elim, List, [], map, filter_map, length, is_empty, every, any, every_two, keep, contains}
use Rattle.lists.specs.Tests.{both, join, same_answer}
use Rattle.lists.specs.Members.{◌∈◌, here, there, here_or_there, none_in_nil}
use Rattle.lists.specs.Every.{every_in, every_all, contains_in, contains_out}

module _ {A : Type 0} (f : A → Bool) where
  pub keep_in : (l : List A) {x : A} → x ∈ l → f x ≡ true → x ∈ keep f l
  keep_in [] k e = absurd (none_in_nil k)
  keep_in (y ∷ l) {x} k e = go (f y) refl (here_or_there k) (λ t. keep_in l t e)
    where
      go : (b : Bool) → f y ≡ b → (x ≡ y) ⊎ (x ∈ l) → (x ∈ l → x ∈ keep f l) → x ∈ cond b (y ∷ keep f l) (keep f l)
      go true q (inl s) ih = here s
      go true q (inr t) ih = there (ih t)
      go false q (inl s) ih = absurd (true≢false (sym e ∙ ap f s ∙ q))
      go false q (inr t) ih = ih t

  pub keep_out : (l : List A) {x : A} → x ∈ keep f l → (x ∈ l) × (f x ≡ true)
  keep_out [] k = absurd (none_in_nil k)
  keep_out (y ∷ l) {x} k = go (f y) refl k (keep_out l)
    where
      go : (b : Bool) → f y ≡ b → x ∈ cond b (y ∷ keep f l) (keep f l) → (x ∈ keep f l → (x ∈ l) × (f x ≡ true)) → (x ∈ y ∷ l) × (f x ≡ true)
      go true q h ih = elim (here_or_there h) [ inl s ↦ (here s, rw s q) | inr t ↦ (there (ih t).0, (ih t).1) ]
      go false q h ih = (there (ih h).0, (ih h).1)

  -- A test that all pass keeps all, one that none passes none.
  pub keep_all : (l : List A) → every f l ≡ true → keep f l ≡ l
  keep_all [] h = refl
  keep_all (x ∷ l) h = rw (both (f x) h).0 (ap (λ k. x ∷ k) (keep_all l (both (f x) h).1))

  pub keep_none : (l : List A) → ((x : A) → x ∈ l → f x ≡ false) → keep f l ≡ []
  keep_none [] h = refl
  keep_none (x ∷ l) h = rw (h x (here refl)) (keep_none l (λ y k. h y (there k)))

  pub keep_short : (l : List A) → length (keep f l) ≤ length l
  keep_short [] = omega arith
  keep_short (x ∷ l) = go (f x) (keep_short l)
    where
      go : (b : Bool) → length (keep f l) ≤ length l → length (cond b (x ∷ keep f l) (keep f l)) ≤ suc (length l)
      go true h = omega arith
      go false h = omega arith

-- What all pass, and what any two pass, is passed by what is kept.
pub every_keep : {A : Type 0} (p f : A → Bool) (l : List A) → every p l ≡ true → every p (keep f l) ≡ true
every_keep p f l h = every_all p (keep f l) (λ x k. every_in p l h (keep_out f l k).0)

pub every_two_keep : {A : Type 0} (p : A → A → Bool) (f : A → Bool) (l : List A) → every_two p l ≡ true → every_two p (keep f l) ≡ true
every_two_keep p f [] h = refl
every_two_keep p f (x ∷ l) h = let (now, later) = both (every (p x) l) h in step (f x) now (every_two_keep p f l later)
  where
    step : (b : Bool) → every (p x) l ≡ true → every_two p (keep f l) ≡ true → every_two p (cond b (x ∷ keep f l) (keep f l)) ≡ true
    step true now e = join (every_keep (p x) f l now) e
    step false now e = e

-- Parts of a list; and what a partial function gives: it is kept where what it is given of is.
pub keep_append : {A : Type 0} (f : A → Bool) (l k : List A) → keep f (l ++ k) ≡ keep f l ++ keep f k
keep_append f [] k = refl
keep_append {A} f (x ∷ l) k = go (f x) (keep_append f l k)
  where
    go : (b : Bool) → keep f (l ++ k) ≡ keep f l ++ keep f k → cond b (x ∷ keep f (l ++ k)) (keep f (l ++ k)) ≡ cond b (x ∷ keep f l) (keep f l) ++ keep f k
    go true e = ap (λ (m : List A). x ∷ m) e
    go false e = e

pub keep_filter_map : {A B : Type 0} (g : A → Option B) (f : B → Bool) (h : A → Bool) → ((a : A) (b : B) → g a ≡ some b → f b ≡ h a)
    → (l : List A) → keep f (filter_map g l) ≡ filter_map g (keep h l)
unfolding filter_map option_elim
keep_filter_map g f h same [] = refl
keep_filter_map {A} {B} g f h same (x ∷ l) = go (g x) refl (h x) refl (keep_filter_map g f h same l)
  where
    go : (o : Option B) → g x ≡ o → (b : Bool) → h x ≡ b → keep f (filter_map g l) ≡ filter_map g (keep h l)
        → keep f (option_elim o (filter_map g l) (λ y. y ∷ filter_map g l)) ≡ filter_map g (cond b (x ∷ keep h l) (keep h l))
    go none e true q ih = ih ∙ rw e refl
    go none e false q ih = ih
    go (some y) e true q ih = rw (same x y e, q, e) (ap (λ (m : List B). y ∷ m) ih)
    go (some y) e false q ih = rw (same x y e, q) ih

-- Two tests: in a row they are one; where they agree, they keep the same.
module _ {A : Type 0} (f g : A → Bool) where
  pub keep_keep : (l : List A) → keep f (keep g l) ≡ keep (λ x. g x && f x) l
  keep_keep [] = refl
  keep_keep (x ∷ l) = step (g x) (keep_keep l)
    where
      step : (b : Bool) {n : List A} → keep f (keep g l) ≡ n → keep f (cond b (x ∷ keep g l) (keep g l)) ≡ cond (b && f x) (x ∷ n) n
      step true e = ap (λ k. cond (f x) (x ∷ k) k) e
      step false e = e

  pub keep_same : (l : List A) → ((x : A) → x ∈ l → f x ≡ g x) → keep f l ≡ keep g l
  keep_same [] h = refl
  keep_same (x ∷ l) h = rw (h x (here refl), keep_same l (λ y k. h y (there k)))

  -- None that pass the one fail the other where all that pass the one pass the other.
  pub keep_empty : (l : List A) → is_empty (keep (λ x. f x && not (g x)) l) ≡ every g (keep f l)
  keep_empty [] = refl
  keep_empty (x ∷ l) = step (f x) (g x) refl (keep_empty l)
    where
      step : (a b : Bool) → g x ≡ b → is_empty (keep (λ q. f q && not (g q)) l) ≡ every g (keep f l)
          → is_empty (cond (a && not b) (x ∷ keep (λ q. f q && not (g q)) l) (keep (λ q. f q && not (g q)) l)) ≡ every g (cond a (x ∷ keep f l) (keep f l))
      step true true e rest = rest ∙ ap (λ b. b && every g (keep f l)) (sym e)
      step true false e rest = ap (λ b. b && every g (keep f l)) (sym e)
      step false b e rest = rest

-- Numbers that are kept.
pub contains_keep : (f : ℕ → Bool) (l : List ℕ) (q : ℕ) → contains (keep f l) q ≡ (contains l q && f q)
contains_keep f l q = same_answer
    (λ e. let (k, passes) = keep_out f l (contains_out (keep f l) q e) in join (contains_in l k) passes)
    (λ e. let (found, passes) = both (contains l q) e in contains_in (keep f l) (keep_in f l (contains_out l q found) passes))

-- Some element passes where something is kept.
pub any_kept : {A : Type 0} (f : A → Bool) (g : ℕ → A) (l : List ℕ) → any f (map g l) ≡ not (is_empty (keep (λ s. f (g s)) l))
any_kept f g [] = refl
any_kept f g (x ∷ l) = go (f (g x)) (any_kept f g l)
  where
    go : (b : Bool) → any f (map g l) ≡ not (is_empty (keep (λ s. f (g s)) l))
        → (b || any f (map g l)) ≡ not (is_empty (cond b (x ∷ keep (λ s. f (g s)) l) (keep (λ s. f (g s)) l)))
    go true e = refl
    go false e = e
