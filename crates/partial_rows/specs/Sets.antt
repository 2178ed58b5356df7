-- Sets of patients, and sets that are split in two.
use Rattle.std.proofs.Common.{sym, true≢false, eqb-true, ◌≡◌, ◌&&◌}
use Rattle.definitions.specs.Basics.{ℕ, refl, Bool, true, false, not, eqb}

-- A set of patients: is a number in it?
abbrev pub Patients : Type 0
Patients = ℕ → Bool

abbrev pub only : ℕ → Patients
only s r = eqb s r

-- D is the disjoint union of two sets: for each patient, whether it is in D, in the first and in the second.
pub data Part : Bool → Bool → Bool → Type 0 where
  first : Part true true false
  second : Part true false true
  neither : Part false false false

abbrev pub Splits : Patients → Patients → Patients → Type 0
Splits D E F = (s : ℕ) → Part (D s) (E s) (F s)

-- One patient and the others.
pub splits_one : (D F : Patients) (s : ℕ) → D s ≡ true → ((r : ℕ) → F r ≡ (D r && not (eqb s r))) → Splits D (only s) F
splits_one D F s mine others r = rw (others r) (go (D r) (eqb s r) (λ e. rw (← eqb-true s r e) mine))
  where
    go : (a b : Bool) → (b ≡ true → a ≡ true) → Part a b (a && not b)
    go true true h = first
    go true false h = second
    go false true h = absurd (true≢false (sym (h refl)))
    go false false h = neither

module _ {D E F : Patients} (split : Splits D E F) where
  -- The two parts in the other order.
  pub swap_parts : Splits D F E
  swap_parts s = go (split s)
    where
      go : {a b c : Bool} → Part a b c → Part a c b
      go first = second
      go second = first
      go neither = neither

  -- Who is in the first part is in the set, and not in the second part.
  pub in_first_lem : (s : ℕ) → E s ≡ true → D s ≡ true
  in_first_lem s = go (split s)
    where
      go : {a b c : Bool} → Part a b c → b ≡ true → a ≡ true
      go first e = refl
      go second e = refl
      go neither e = e

  pub not_both : (s : ℕ) → E s ≡ true → F s ≡ false
  not_both s = go (split s)
    where
      go : {a b c : Bool} → Part a b c → b ≡ true → c ≡ false
      go first e = refl
      go second e = absurd (true≢false (sym e))
      go neither e = refl
