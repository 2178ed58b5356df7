use Rattle.std.proofs.Common.{◌≡◌, rules}
use Rattle.scanner.specs.declared.Class.TheVariants.{LineEnd}
use Rattle.scanner.proofs.Classes.{answered}
use Rattle.scanner.proofs.Bytes.{line_end, byte_is, byte_is_not}
use Rattle.scanner.proofs.is_line_end.Goals as goal

pub returns : goal.returns
returns c =
    answered
    (λ e. let q : c.class_of.result ≡ LineEnd = search rules in byte_is line_end _ c.class_of.ensures q)
    (λ e. let n : c.class_of.result ≡ LineEnd → ⊥ = λ q. search rules in byte_is_not line_end _ c.class_of.ensures n)
