-- Numbers put one after the other into a store of fixed length, which stops storing where it is full.
use Rattle.std.specs.Prelude.{◌≡◌, length, get_or, set, ℕ, ◌≤◌, ◌<◌}
use Rattle.std.proofs.Common.{sym, ◌∙◌, arith, length-append, length-set, get_or-set_same, get_or-set_other, ◌∷◌, ◌++◌}
use Rattle.std.proofs.Math.Decide.{ℕ_discrete}
use Rattle.std.proofs.Math.ListN.{get_or-append}
use Rattle.std.proofs.Math.Seq.{get_or-append_seam}
use Rattle.definitions.specs.Basics.{List, []}

-- The store holds the numbers as far as it goes. What stands behind them is not said.
pub record Stored (store numbers : List ℕ) : Type 0 where
  pub held : (i : ℕ) → i < length store → i < length numbers → get_or store i 0 ≡ get_or numbers i 0

-- Nothing is held by any store.
pub stored_none : (store : List ℕ) → Stored store []
stored_none store = record { held = λ i h l. absurd (omega arith) }

-- There is room for one more; there is none.
pub stored_set : {store : List ℕ} (numbers : List ℕ) (x : ℕ) → length numbers < length store → Stored store numbers
    → Stored (set store (length numbers) x) (numbers ++ x ∷ [])
stored_set {store} numbers x room s =
    record { held = λ i h l. go i (ℕ_discrete i (length numbers)) (omega (arith, length-set store (length numbers) x)) (omega (arith, length-append numbers (x ∷ []))) }
  where
    go : (i : ℕ) → Dec (i ≡ length numbers) → i < length store → i ≤ length numbers → get_or (set store (length numbers) x) i 0 ≡ get_or (numbers ++ x ∷ []) i 0
    go i (yes e) h l = rw e (get_or-set_same store (length numbers) x 0 room ∙ sym (get_or-append_seam numbers x [] 0))
    go i (no n) h l = get_or-set_other store (length numbers) i x 0 n ∙ s.held i h (omega arith) ∙ sym (get_or-append numbers (x ∷ []) 0 i (omega arith))

pub stored_full : {store : List ℕ} (numbers : List ℕ) (x : ℕ) → length store ≤ length numbers → Stored store numbers → Stored store (numbers ++ x ∷ [])
stored_full numbers x full s = record { held = λ i h l. s.held i h (omega arith) ∙ sym (get_or-append numbers (x ∷ []) 0 i (omega arith)) }
