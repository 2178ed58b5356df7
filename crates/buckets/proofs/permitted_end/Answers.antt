use mathlib.Core.Path.{◌≡◌, sym, ap, ◌∙◌}
use native.Mathlib.Omega.{arith}
use borrow.Author.Tests.{ltb-true}
use Rattle.std.specs.Prelude.{◌<◌}
use Rattle.definitions.specs.Basics.{ℕ, true}
use Rattle.std.specs.Prelude as Code
use Rattle.held_region.specs.Meaning.{optional}
use Rattle.held_region.specs.Asked.{none_or_below}
use Rattle.buckets.specs.Permitted.{end_of}
use Rattle.buckets.proofs.permitted_end.Goals as goal

fixed-below : {field : Code.Option ℕ} {bed : ℕ} (beds : ℕ) → field ≡ Code.Some bed → none_or_below (optional field) beds ≡ true → bed < beds
fixed-below {field} {bed} beds is below = ltb-true bed beds (sym (ap (λ f. none_or_below (optional f) beds) is) ∙ below)

pub overflow_add-result : goal.overflow_add-result
overflow_add-result c =
    let start = c in
    omega (arith, fixed-below start.args.beds c.in-Some.is start.requires)

pub returns-in-Some : goal.returns-in-Some
returns-in-Some c = sym (ap (λ o. end_of (optional o) c.args.beds) c.in-Some.is)
