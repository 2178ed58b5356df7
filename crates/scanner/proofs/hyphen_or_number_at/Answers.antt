use Rattle.std.proofs.Common.{◌≡◌, rules, sym, ◌∙◌}
use Rattle.scanner.specs.declared.Class.TheVariants.{Hyphen}
use Rattle.scanner.proofs.Steps.{entry_hyphen, entry_number, entry_missing}
use Rattle.scanner.proofs.hyphen_or_number_at.Goals as goal

pub returns-then-eq : goal.returns-then-eq
returns-then-eq c = let e : c.class_at.result ≡ Hyphen = search rules in entry_hyphen _ _ (sym c.class_at.ensures ∙ e)

pub returns-in_err-value : goal.returns-in_err-value
returns-in_err-value c = let n : c.class_at.result ≡ Hyphen → ⊥ = λ e. search rules in rw c.from_residual.ensures (entry_missing _ _ c.class_at.ensures n c.number_at.ensures c.in_err-value.was)

pub returns : goal.returns
returns c = let n : c.class_at.result ≡ Hyphen → ⊥ = λ e. search rules in entry_number _ _ c.class_at.ensures n c.number_at.ensures c.in_ok-value.was
