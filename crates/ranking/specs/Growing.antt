-- A list of the first m things that grows by the things of one set after another.
-- (Theorems that rest on these stand in `proofs/Growing.antt`.)
use Rattle.std.specs.Prelude.{◌⊎◌, ◌≤◌}
use Rattle.std.proofs.Common.{inl, inr, arith}
use Rattle.definitions.specs.Basics.{ℕ, List, [], length}
use Rattle.lists.specs.Members.{◌∈◌, ◌⊆◌, none_in_nil}
use Rattle.ranking.specs.Orders.{Order}
use Rattle.ranking.specs.First.{Sorted, First, first_iff}

-- In the list, or satisfies Q.
abbrev pub With : {A : Type 0} → List A → (A → Type 0) → A → Type 0
With l Q z = (z ∈ l) ⊎ Q z

module _ {A : Type 0} (O : Order A) (m : ℕ) where
  -- The new list holds the first m of what the old one held and of what satisfies Q.
  abbrev pub Grown : List A → (A → Type 0) → List A → Type 0
  Grown old Q new = First O m (With old Q) new

  -- A list that may grow by what satisfies Q: it holds nothing of that yet.
  pub record Ready (old : List A) (Q : A → Type 0) : Type 0 where
    pub sorted : Sorted O old
    pub short : length old ≤ m
    pub new : (z : A) → z ∈ old → Q z → ⊥

module _ {A : Type 0} {O : Order A} {m : ℕ} where
  -- Into the empty list.
  pub ready_nil : {Q : A → Type 0} → Ready O m [] Q
  ready_nil = record { sorted = tt; short = omega arith; new = λ z k. absurd (none_in_nil k) }

  pub grown_from_nil : {Q : A → Type 0} {l : List A} → Grown O m [] Q l → First O m Q l
  grown_from_nil {Q} h = first_iff {P = With [] Q} (λ z p. elim p [ inl k ↦ absurd (none_in_nil k) | inr q ↦ q ]) (λ z q. inr q) h

  -- The same set otherwise described.
  pub ready_iff : {Q R : A → Type 0} {old : List A} → R ⊆ Q → Ready O m old Q → Ready O m old R
  ready_iff g r = record { sorted = r.sorted; short = r.short; new = λ z k q. r.new z k (g z q) }

  pub grown_iff : {Q R : A → Type 0} {old l : List A} → Q ⊆ R → R ⊆ Q → Grown O m old Q l → Grown O m old R l
  grown_iff f g h = first_iff (λ z p. elim p [ inl k ↦ inl k | inr q ↦ inr (f z q) ]) (λ z p. elim p [ inl k ↦ inl k | inr q ↦ inr (g z q) ]) h

  -- By nothing; by one thing.
  pub grown_none : {Q R : A → Type 0} {old : List A} → Ready O m old Q → ((z : A) → R z → ⊥) → Grown O m old R old
  grown_none r none = record { sorted = r.sorted; sound = inl; short = r.short; complete = λ z p. elim p [ inl k ↦ inl k | inr q ↦ absurd (none z q) ] }

  pub ready_then : {Q R : A → Type 0} {old mid : List A} → ((z : A) → Q z → R z → ⊥) → Ready O m old R → Grown O m old Q mid → Ready O m mid R
  ready_then apart r h = record {
    sorted = h.sorted;
    short = h.short;
    new = λ z k p. elim (h.sound k) [ inl i ↦ r.new z i p | inr q ↦ apart z q p ];
  }
