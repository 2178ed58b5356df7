-- The elements of a list that are the first with their key: what is kept, and in which order, where the list is ranked.
-- (Theorems that rest on these stand in `proofs/Occurrences.antt`.)
use Rattle.std.proofs.Common.{sym, ap, ◌∙◌, inl, inr, true≢false, ◌≡◌, ◌||◌, ◌∷◌, ◌++◌}
use Rattle.std.specs.Prelude.{◌⊎◌}
use Rattle.definitions.specs.Basics.{refl, Bool, true, false, List, [], map, any, first_occurrences}
use Rattle.lists.specs.Members.{◌∈◌, Distinct, here, there, here_or_there, none_in_nil, in_map_cases, in_cast}
use Rattle.ranking.specs.Orders.{Order}

-- The test says whether two keys are equal.
pub record Tests {A K : Type 0} (key : A → K) (alike : A → A → Bool) : Type 0 where
  pub alike_same : (x y : A) → alike x y ≡ true → key x ≡ key y
  pub same_alike : (x y : A) → key x ≡ key y → alike x y ≡ true

module _ {A K : Type 0} (key : A → K) where
  -- An element of xs, before which none has its key.
  pub record FirstIn (xs : List A) (y : A) : Type 0 where
    pub before : List A
    pub after : List A
    pub stands : xs ≡ before ++ y ∷ after
    pub new : key y ∈ map key before → ⊥

  first_next : (x : A) {xs : List A} {y : A} → FirstIn xs y → (key y ≡ key x → ⊥) → FirstIn (x ∷ xs) y
  first_next x f other = record {
    before = x ∷ f.before;
    after = f.after;
    stands = ap {B = List A} (λ l. x ∷ l) f.stands;
    new = λ k. elim (here_or_there k) [ inl e ↦ other e | inr t ↦ f.new t ];
  }

  -- Of the elements of xs whose key has not been seen, the first with each key is kept.
  pub record KeptOnce (seen xs kept : List A) : Type 0 where
    pub first : (y : A) → y ∈ kept → FirstIn xs y
    pub new : (y : A) → y ∈ kept → key y ∈ map key seen → ⊥
    pub differ : Distinct (map key kept)
    pub every : (y : A) → y ∈ xs → (key y ∈ map key kept) ⊎ (key y ∈ map key seen)

  -- The answer of the test whether the key of x has been seen.
  pub data Seen (x : A) (seen : List A) : Bool → Type 0 where
    found : key x ∈ map key seen → Seen x seen true
    missing : (key x ∈ map key seen → ⊥) → Seen x seen false

-- One step: x is left out, or kept.
abbrev pub kept_if : {A : Type 0} → Bool → A → List A → List A → List A
kept_if seen x without with = elim seen [ true ↦ without | false ↦ x ∷ with ]

module _ {A K : Type 0} {key : A → K} {alike : A → A → Bool} (tests : Tests key alike) where
  pub seen_view : (x : A) (seen : List A) → Seen key x seen (any (alike x) seen)
  seen_view x [] = missing none_in_nil
  seen_view x (y ∷ seen) = go (alike x y) refl (seen_view x seen)
    where
      go : (b : Bool) → alike x y ≡ b → {c : Bool} → Seen key x seen c → Seen key x (y ∷ seen) (b || c)
      go true e v = found (here (tests.alike_same x y e))
      go false e (found k) = found (there k)
      go false e (missing n) = missing (λ k. elim (here_or_there k) [ inl q ↦ true≢false (sym (tests.same_alike x y q) ∙ e) | inr t ↦ n t ])

  pub kept_once : (seen xs : List A) → KeptOnce key seen xs (first_occurrences alike seen xs)
  kept_once seen [] = record { first = λ y k. absurd (none_in_nil k); new = λ y k. absurd (none_in_nil k); differ = tt; every = λ y k. absurd (none_in_nil k) }
  kept_once seen (x ∷ xs) = go (seen_view x seen) (kept_once seen xs) (kept_once (x ∷ seen) xs)
    where
      go : {b : Bool} {s t : List A} → Seen key x seen b → KeptOnce key seen xs s → KeptOnce key (x ∷ seen) xs t → KeptOnce key seen (x ∷ xs) (kept_if b x s t)
      go (found c) old new = record {
        first = λ y k. first_next key x (old.first y k) (λ e. old.new y k (in_cast e c));
        new = old.new;
        differ = old.differ;
        every = λ y k. elim (here_or_there k) [ inl e ↦ inr (in_cast (ap key e) c) | inr t ↦ old.every y t ];
      }
      go {t} (missing n) old new = record {
        first = λ y k. elim (here_or_there k) [
          | inl e ↦ record { before = []; after = xs; stands = ap {B = List A} (λ z. z ∷ xs) (sym e); new = none_in_nil }
          | inr u ↦ first_next key x (new.first y u) (λ e. new.new y u (here e))
        ];
        new = λ y k c. elim (here_or_there k) [ inl e ↦ n (in_cast (sym (ap key e)) c) | inr u ↦ new.new y u (there c) ];
        differ = (λ k. let (y, i, e) = in_map_cases key t k in new.new y i (here e), new.differ);
        every = λ y k. elim (here_or_there k) [
          | inl e ↦ inl (here (ap key e))
          | inr u ↦ elim (new.every y u) [ inl i ↦ inl (there i) | inr c ↦ elim (here_or_there c) [ inl e ↦ inl (here e) | inr v ↦ inr v ] ]
        ];
      }

-- Things and their rows: a row has a best thing, and a smaller row a smaller one. A row is known by its key.
pub record Rows {A B K : Type 0} (O : Order A) (U : Order B) (row : A → B) (best : B → A) (key : B → K) (P : A → Type 0) (Q : B → Type 0) : Type 0 where
  pub rows : (z : A) → P z → Q (row z)
  pub things : (b : B) → Q b → P (best b)
  pub back : (b : B) → Q b → row (best b) ≡ b
  pub least : (z : A) → P z → (z ≡ best (row z)) ⊎ O.Lt (best (row z)) z
  pub rising : (a b : B) → Q a → Q b → U.Lt a b → O.Lt (best a) (best b)
  pub one : (a b : B) → Q a → Q b → key a ≡ key b → a ≡ b
