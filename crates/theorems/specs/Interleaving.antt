-- Two lists interleaved as marks say: a plan is the beds of the marked patients and the beds of the others.
use Rattle.std.proofs.Common.{ap, inl, inr, ◌≡◌, ◌∷◌}
use Rattle.definitions.specs.Basics.{ℕ, refl, Bool, true, false, not, cond, List, [], map, keep}
use Rattle.ranking.specs.Orders.{ListLt}
use Rattle.theorems.specs.List.{Fits}

-- The third list takes from the first at each mark, and from the second elsewhere.
pub data Interleaved : List Bool → List ℕ → List ℕ → List ℕ → Type 0 where
  done : Interleaved [] [] [] []
  marked : {ks : List Bool} {xs ys zs : List ℕ} (b : ℕ) → Interleaved ks xs ys zs → Interleaved (true ∷ ks) (b ∷ xs) ys (b ∷ zs)
  unmarked : {ks : List Bool} {xs ys zs : List ℕ} (b : ℕ) → Interleaved ks xs ys zs → Interleaved (false ∷ ks) xs (b ∷ ys) (b ∷ zs)

-- The marks and the third list determine the other two.
pub unweave : {ks : List Bool} {xs ys vs ws zs : List ℕ} → Interleaved ks xs ys zs → Interleaved ks vs ws zs → (xs ≡ vs) × (ys ≡ ws)
unweave done done = (refl, refl)
unweave (marked b h) (marked d k) = let (p, q) = unweave h k in (ap {B = List ℕ} (λ l. b ∷ l) p, q)
unweave (unmarked b h) (unmarked d k) = let (p, q) = unweave h k in (p, ap {B = List ℕ} (λ l. b ∷ l) q)

-- A smaller list on one side, the other side unchanged, makes a smaller one.
pub rising_marked : {ks : List Bool} {xs ys zs vs us : List ℕ} → Interleaved ks xs ys zs → Interleaved ks vs ys us → ListLt xs vs → ListLt zs us
rising_marked done done h = h
rising_marked (marked b p) (marked d q) (inl h) = inl h
rising_marked (marked b p) (marked d q) (inr h) = inr (h.0, rising_marked p q h.1)
rising_marked (unmarked b p) (unmarked d q) h = inr (refl, rising_marked p q h)

pub rising_unmarked : {ks : List Bool} {xs ys zs ws us : List ℕ} → Interleaved ks xs ys zs → Interleaved ks xs ws us → ListLt ys ws → ListLt zs us
rising_unmarked done done h = h
rising_unmarked (marked b p) (marked d q) h = inr (refl, rising_unmarked p q h)
rising_unmarked (unmarked b p) (unmarked d q) (inl h) = inl h
rising_unmarked (unmarked b p) (unmarked d q) (inr h) = inr (h.0, rising_unmarked p q h.1)

-- A plan fits where both of its sides fit.
pub fits_apart : {ks : List Bool} {ds es cs xs ys zs : List ℕ} → Interleaved ks ds es cs → Interleaved ks xs ys zs → Fits cs zs → Fits ds xs × Fits es ys
fits_apart done done f = (tt, tt)
fits_apart (marked d p) (marked b q) f = let (l, r) = fits_apart p q f.1 in ((f.0, l), r)
fits_apart (unmarked d p) (unmarked b q) f = let (l, r) = fits_apart p q f.1 in (l, (f.0, r))

pub fits_together : {ks : List Bool} {ds es cs xs ys zs : List ℕ} → Interleaved ks ds es cs → Interleaved ks xs ys zs → Fits ds xs → Fits es ys → Fits cs zs
fits_together done done l r = tt
fits_together (marked d p) (marked b q) l r = (l.0, fits_together p q l.1 r)
fits_together (unmarked d p) (unmarked b q) l r = (r.0, fits_together p q l r.1)

-- Two lists put together, where there are as many marks as they have elements.
abbrev pub interleave : List Bool → List ℕ → List ℕ → List ℕ
interleave [] xs ys = []
interleave (true ∷ ks) [] ys = []
interleave (true ∷ ks) (x ∷ xs) ys = x ∷ interleave ks xs ys
interleave (false ∷ ks) xs [] = []
interleave (false ∷ ks) xs (y ∷ ys) = y ∷ interleave ks xs ys

pub interleaved : {ks : List Bool} {ds es cs : List ℕ} (xs ys : List ℕ) → Interleaved ks ds es cs → Fits ds xs → Fits es ys
    → Interleaved ks xs ys (interleave ks xs ys)
interleaved [] [] done f g = done
interleaved (x ∷ xs) ys done f g = absurd f
interleaved [] (y ∷ ys) done f g = absurd g
interleaved [] ys (marked d p) f g = absurd f
interleaved (x ∷ xs) ys (marked d p) f g = marked x (interleaved xs ys p f.1 g)
interleaved xs [] (unmarked d p) f g = absurd g
interleaved xs (y ∷ ys) (unmarked d p) f g = unmarked y (interleaved xs ys p f g.1)

-- What a function gives on a list: what it gives on the elements that pass a test, and on the others.
pub interleaved_keep : {A : Type 0} (f : A → Bool) (g : A → ℕ) (l : List A)
    → Interleaved (map f l) (map g (keep f l)) (map g (keep (λ x. not (f x)) l)) (map g l)
interleaved_keep f g [] = done
interleaved_keep {A} f g (x ∷ l) = go (f x) (interleaved_keep f g l)
  where
    go : (b : Bool) → Interleaved (map f l) (map g (keep f l)) (map g (keep (λ x. not (f x)) l)) (map g l)
        → Interleaved (b ∷ map f l) (map g (cond b (x ∷ keep f l) (keep f l)))
        (map g (cond (not b) (x ∷ keep (λ x. not (f x)) l) (keep (λ x. not (f x)) l))) (g x ∷ map g l)
    go true ih = marked (g x) ih
    go false ih = unmarked (g x) ih

pub interleave_is : {ks : List Bool} {xs ys zs : List ℕ} → Interleaved ks xs ys zs → zs ≡ interleave ks xs ys
interleave_is done = refl
interleave_is (marked b h) = ap {B = List ℕ} (λ l. b ∷ l) (interleave_is h)
interleave_is (unmarked b h) = ap {B = List ℕ} (λ l. b ∷ l) (interleave_is h)
