use mathlib.Core.Path.{◌≡◌, refl, ap, ◌∙◌}
use Rattle.std.specs.Prelude as Code
use Rattle.definitions.specs.Basics.{option_get_or}
use Rattle.pricing.specs.Pricing.{Cost, cost_in}
use Rattle.sheets.proofs.price.Goals as goal

cost_or : (cost : Cost) → Code.unwrap_or cost 0 ≡ option_get_or (cost_in cost) 0
cost_or Code.None = refl
cost_or (Code.Some n) = refl

pub returns : goal.returns
returns c = λ r p f e. c.unwrap_or.ensures ∙ cost_or c.tables_cost.result ∙ ap (λ o. option_get_or o 0) (c.tables_cost.ensures r p f e)
