-- Beds that four bits hold.
use Rattle.std.specs.Prelude.{set, ◌<◌, ◌∷◌}
use Rattle.definitions.specs.Basics.{ℕ, zero, suc, List, []}
use Rattle.definitions.specs.Plans.{bed_of}

-- They hold each bed, also where one is set that they hold.
pub low_set : (beds : List ℕ) (s bed : ℕ) → bed < 16 → ((q : ℕ) → bed_of beds q < 16) → (q : ℕ) → bed_of (set beds s bed) q < 16
low_set [] s bed small low q = low q
low_set (x ∷ beds) zero bed small low zero = small
low_set (x ∷ beds) zero bed small low (suc q) = low (suc q)
low_set (x ∷ beds) (suc s) bed small low zero = low zero
low_set (x ∷ beds) (suc s) bed small low (suc q) = low_set beds s bed small (λ p. low (suc p)) q
