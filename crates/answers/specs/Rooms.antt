-- The number of a call from C, by whether its result area is long enough.
use Rattle.std.specs.Prelude.{◌≡◌, refl}
use Rattle.std.proofs.Common.{sym, ap, ◌∙◌, ◌∷◌}
use Rattle.definitions.specs.Basics.{ℕ, zero, suc, true, false}
use Rattle.definitions.specs.Questions.{first_no, Asks, entry_asks, call_asks}
use Rattle.theorems.specs.Answers.{Numbered, says, yes_then, no_then, yes_between}

-- The number after questions that gave one: theirs, or 12 where they gave 0.
abbrev pub or_twelve : ℕ → ℕ
or_twelve zero = 12
or_twelve (suc q) = suc q

pub some_number : (n : ℕ) → (n ≡ 0 → ⊥) → n ≡ or_twelve n
some_number zero not_zero = absurd (not_zero refl)
some_number (suc q) not_zero = refl

module _ (asks : Asks) where
  -- With room for the result, the call asks what the entry asks.
  pub with_room : first_no (call_asks asks true) ≡ first_no (entry_asks asks)
  with_room = yes_between asks.first asks.later 12

  -- Without it, what is asked first counts, and then 12.
  pub without_room : Numbered asks.first → first_no (call_asks asks false) ≡ or_twelve (first_no asks.first)
  without_room numbered = go (first_no asks.first) refl
    where
      go : (n : ℕ) → first_no asks.first ≡ n → first_no (call_asks asks false) ≡ or_twelve (first_no asks.first)
      go zero e = yes_then asks.first ((12, false) ∷ asks.later) ((says asks.first numbered).accepted.0 e) ∙ sym (ap or_twelve e)
      go (suc q) e = no_then asks.first ((12, false) ∷ asks.later) q e ∙ sym (ap or_twelve e)
