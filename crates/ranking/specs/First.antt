-- The first m things of a set in a strict total order: what that means, how the set may change under the list, and that the set determines the list.
-- (Theorems that rest on these stand in `proofs/First.antt`.)
use Rattle.std.proofs.Common.{inl, inr, arith, ◌≡◌, ◌∷◌}
use Rattle.std.specs.Prelude.{◌⊎◌, ◌≤◌}
use Rattle.definitions.specs.Basics.{ℕ, zero, suc, Ordering, refl, List, [], length, get_or}
use Rattle.lists.specs.Members.{◌∈◌, ◌⊆◌, get_d_in, Distinct, here, there, here_or_there, none_in_nil}
use Rattle.ranking.specs.Orders.{Order, View, before, equal, after}

module _ {A : Type 0} (O : Order A) where
  -- Each element comes before all the later ones.
  abbrev pub Sorted : List A → Type 0
  Sorted [] = Unit {0}
  Sorted (x ∷ l) = ((y : A) → y ∈ l → O.Lt x y) × Sorted l

  -- The list has m elements, and all of them come before z.
  pub record FullBefore (m : ℕ) (l : List A) (z : A) : Type 0 where
    pub full : length l ≡ m
    pub ahead : {y : A} → y ∈ l → O.Lt y z

  -- The list holds the first m things that satisfy P, in order, or all of them if they are fewer.
  pub record First (m : ℕ) (P : A → Type 0) (l : List A) : Type 0 where
    pub sorted : Sorted l
    pub sound : {z : A} → z ∈ l → P z
    pub short : length l ≤ m
    pub complete : (z : A) → P z → (z ∈ l) ⊎ FullBefore m l z

  -- At least m things that satisfy P come before z.
  pub record Covered (m : ℕ) (P : A → Type 0) (z : A) : Type 0 where
    pub things : List A
    pub rising : Sorted things
    pub within : (y : A) → y ∈ things → P y
    pub earlier : (y : A) → y ∈ things → O.Lt y z
    pub enough : m ≤ length things

  -- Nothing that satisfies P comes before x; what satisfies P and comes after x.
  abbrev pub Least : (A → Type 0) → A → Type 0
  Least P x = (z : A) → P z → (z ≡ x) ⊎ O.Lt x z

  abbrev pub Past : (A → Type 0) → A → A → Type 0
  Past P x z = P z × O.Lt x z

  -- A sorted list is distinct.
  pub sorted_distinct : (l : List A) → Sorted l → Distinct l
  sorted_distinct [] s = tt
  sorted_distinct (x ∷ l) s = (λ h. O.irrefl (s.0 x h), sorted_distinct l s.1)

  -- Nothing in a sorted list comes after its last.
  pub sorted_last : (l : List A) (n : ℕ) (d : A) → Sorted l → length l ≡ suc n → {y : A} → y ∈ l → (y ≡ get_or l n d) ⊎ O.Lt y (get_or l n d)
  sorted_last [] n d s e k = absurd (none_in_nil k)
  sorted_last (x ∷ []) zero d s e k = elim (here_or_there k) [ inl q ↦ inl q | inr t ↦ absurd (none_in_nil t) ]
  sorted_last (x ∷ []) (suc n) d s e k = absurd (omega arith)
  sorted_last (x ∷ w ∷ l) zero d s e k = absurd (omega arith)
  sorted_last (x ∷ w ∷ l) (suc n) d s e {y} k = elim (here_or_there k) [
    | inl q ↦ inr (rw q (s.0 (get_or (w ∷ l) n d) (get_d_in (w ∷ l) n d (omega arith))))
    | inr t ↦ sorted_last (w ∷ l) n d s.1 (omega arith) t
  ]

module _ {A : Type 0} {O : Order A} where
  -- The set may change where the list does not: all of the list stays, and what is new comes after the full list.
  pub first_change : {m : ℕ} {P Q : A → Type 0} {l : List A} → ((z : A) → z ∈ l → Q z) → ((z : A) → Q z → P z ⊎ FullBefore O m l z)
      → First O m P l → First O m Q l
  first_change g f h = record {
    sorted = h.sorted;
    sound = λ {z} k. g z k;
    short = h.short;
    complete = λ z q. elim (f z q) [ inl p ↦ h.complete z p | inr c ↦ inr c ];
  }

  -- An equivalent set; a larger set, by what comes after the full list; a smaller set that still has all of the list.
  pub first_iff : {m : ℕ} {P Q : A → Type 0} {l : List A} → P ⊆ Q → Q ⊆ P → First O m P l → First O m Q l
  first_iff f g h = first_change (λ z k. f z (h.sound k)) (λ z q. inl (g z q)) h

  pub first_prune : {m : ℕ} {P Q : A → Type 0} {l : List A} → P ⊆ Q → ((z : A) → Q z → P z ⊎ FullBefore O m l z) → First O m P l → First O m Q l
  first_prune f g h = first_change (λ z k. f z (h.sound k)) g h

  pub first_shrink : {m : ℕ} {P Q : A → Type 0} {l : List A} → Q ⊆ P → ((z : A) → z ∈ l → Q z) → First O m P l → First O m Q l
  first_shrink f g h = first_change g (λ z q. inl (f z q)) h

  -- A cut: what is not before the last of a full list may join the set. (What equals the last is in the set already.)
  pub first_cut : {m : ℕ} {P Q : A → Type 0} {l : List A} (n : ℕ) (d : A) → m ≡ suc n → length l ≡ m → P ⊆ Q
      → ((z : A) → Q z → P z ⊎ (O.Lt z (get_or l n d) → ⊥)) → First O m P l → First O m Q l
  first_cut {m} {P} {Q} {l} n d e full f g h = first_prune f (λ z q. elim (g z q) [ inl p ↦ inl p | inr c ↦ go z c (O.view z (get_or l n d)) ]) h
    where
      go : (z : A) → (O.Lt z (get_or l n d) → ⊥) → {o : Ordering} → View O.Lt z (get_or l n d) o → P z ⊎ FullBefore O m l z
      go z c (before t) = absurd (c t)
      go z c (equal s) = inl (rw s (h.sound (get_d_in l n d (omega arith))))
      go z c (after t) = inr (record {
        full = full;
        ahead = λ k. elim (sorted_last O l n d h.sorted (omega arith) k) [ inl s ↦ rw s t | inr u ↦ O.trans u t ];
      })

  -- The empty list: where none are wanted, or there are none; where more are wanted, there are none.
  pub full_nil : {z : A} → FullBefore O zero [] z
  full_nil = record { full = refl; ahead = λ k. absurd (none_in_nil k) }

  first_empty : {m : ℕ} {P : A → Type 0} → ((z : A) → P z → FullBefore O m [] z) → First O m P []
  first_empty f = record { sorted = tt; sound = λ k. absurd (none_in_nil k); short = omega arith; complete = λ z p. inr (f z p) }

  pub first_zero : {P : A → Type 0} → First O zero P []
  first_zero = first_empty (λ z p. full_nil)

  pub first_none : {m : ℕ} {P : A → Type 0} → ((z : A) → P z → ⊥) → First O m P []
  first_none f = first_empty (λ z p. absurd (f z p))

  pub first_nil : {m : ℕ} {P : A → Type 0} → First O (suc m) P [] → (z : A) → P z → ⊥
  first_nil h z p = elim (h.complete z p) [ inl k ↦ none_in_nil k | inr c ↦ omega (arith, c.full) ]

  -- By recursion: the head is the least, and the tail holds the first of what comes after it.
  pub first_least : {m : ℕ} {P : A → Type 0} {x : A} {l : List A} → First O m P (x ∷ l) → Least O P x
  first_least h z p = elim (h.complete z p) [
    | inl k ↦ elim (here_or_there k) [ inl e ↦ inl e | inr t ↦ inr (h.sorted.0 z t) ]
    | inr c ↦ inr (c.ahead (here refl))
  ]

  pub first_tail : {m : ℕ} {P : A → Type 0} {x : A} {l : List A} → First O (suc m) P (x ∷ l) → First O m (Past O P x) l
  first_tail h = record {
    sorted = h.sorted.1;
    sound = λ {z} k. (h.sound (there k), h.sorted.0 z k);
    short = omega (arith, h.short);
    complete = λ z (p, t). elim (h.complete z p) [
      | inl k ↦ elim (here_or_there k) [ inl e ↦ absurd (O.irrefl (rw e at t)) | inr u ↦ inl u ]
      | inr c ↦ inr (record { full = omega (arith, c.full); ahead = λ k. c.ahead (there k) })
    ];
  }
