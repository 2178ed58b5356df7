-- Of a list that is said one element after the other, the first n are held in an array.
use Rattle.std.specs.Prelude.{◌≡◌, ◌≤◌, set}
use Rattle.std.proofs.Common.{sym, arith, length-append, get_or-set_same, get_or-set_other, ◌<◌, ◌∷◌, ◌++◌}
use Rattle.std.proofs.Math.Decide.{ℕ_discrete}
use Rattle.std.proofs.Math.ListN.{get_or-append}
use Rattle.std.proofs.Math.Seq.{get_or-append_seam, set_out}
use Rattle.definitions.specs.Basics.{ℕ, List, [], length, get_or}

module _ {A B : Type 0} (n : ℕ) (Holds : A → B → Type 0) (d : A) (e : B) where
  abbrev pub FirstHeld : List A → List B → Type 0
  FirstHeld first said = (i : ℕ) → i < n → i < length said → Holds (get_or first i d) (get_or said i e)

  pub held_none : (first : List A) → FirstHeld first []
  held_none first i h k = absurd (omega arith)

  -- One more is said, and set at the next place. Where the array is full, to set it changes nothing.
  pub held_more : (first : List A) (said : List B) (a : A) (b : B) → length first ≡ n → FirstHeld first said → Holds a b
      → FirstHeld (set first (length said) a) (said ++ b ∷ [])
  held_more first said a b wide holds h i l k = go (ℕ_discrete i (length said))
    where
      go : Dec (i ≡ length said) → Holds (get_or (set first (length said) a) i d) (get_or (said ++ b ∷ []) i e)
      go (yes q) = rw (q, get_or-set_same first (length said) a d (omega arith), get_or-append_seam said b [] e) h
      go (no q) =
          let inside : i < length said = omega (arith, length-append said (b ∷ [])) in
          rw (get_or-set_other first (length said) i a d q, get_or-append said (b ∷ []) e i inside) (holds i l inside)

pub set_full : {A : Type 0} (first : List A) (count : ℕ) (a : A) → length first ≤ count → first ≡ set first count a
set_full first count a h = sym (set_out first count a h)
