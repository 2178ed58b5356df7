use Rattle.std.proofs.Common.{◌≡◌, rules, []}
use Rattle.scanner.proofs.Bytes.{byte_read, byte_not_read}
use Rattle.scanner.proofs.one_at.Goals as goal

pub returns-then-eq : goal.returns-then-eq
returns-then-eq c w one = let e : c.class_at.result ≡ c.args.class = search rules in byte_read one _ _ c.class_at.ensures e

pub returns-else-eq : goal.returns-else-eq
returns-else-eq c w one = let n : c.class_at.result ≡ c.args.class → ⊥ = λ e. search rules in byte_not_read one _ _ c.class_at.ensures [] n
