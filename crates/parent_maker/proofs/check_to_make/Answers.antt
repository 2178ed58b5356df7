use mathlib.Core.Path.{◌≡◌, refl, ap, ◌∙◌}
use Rattle.std.specs.Prelude.{Result, Ok, Err}
use Rattle.std.specs.Result.{MatchResult, is_ok}
use Rattle.held_region.specs.declared.Refusal.{Refusal}
use Rattle.held_region.specs.Refusals.{number_of}
use Rattle.answers.specs.Answers.{checked_number}
use Rattle.reader.specs.Loading.{checks_nine}
use Rattle.parent_maker.proofs.check_to_make.Goals as goal

-- An answer without its value has the same number.
same_number : {A : Type 0} (P : A → Type 0) (r : Result A Refusal) (m : Result (Unit {0}) Refusal) → is_ok m ≡ is_ok r → MatchResult r P (λ e. m ≡ Err e)
    → checked_number m ≡ number_of r
same_number P (Ok a) (Ok u) same cases = refl
same_number P (Ok a) (Err e) same cases = absurd (cc)
same_number P (Err e) m same cases = ap checked_number cases

pub returns : goal.returns
returns c = same_number _ _ _ c.map.ensures.variant c.map.ensures.cases ∙ checks_nine c.load-asked.ensures
