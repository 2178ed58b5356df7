use mathlib.Core.Path.{◌≡◌, refl, ◌∙◌}
use Prim.Native.Nat.{ℕ}
use Rattle.std.specs.Prelude as Code
use Rattle.held_region.specs.Meaning.{optional}
use Rattle.buckets.specs.Permitted.{first_of}
use Rattle.buckets.proofs.first_permitted.Goals as goal

first_or : (fixed : Code.Option ℕ) → Code.unwrap_or fixed 0 ≡ first_of (optional fixed)
first_or Code.None = refl
first_or (Code.Some bed) = refl

pub returns : goal.returns
returns c = c.unwrap_or.ensures ∙ first_or c.args.fixed
