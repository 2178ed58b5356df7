use Rattle.region_lines.specs.Codes.{mark_spelled, number_spelled}
use Rattle.region_lines.proofs.forms.write_code.Goals as goal

pub write_byte-requires : goal.write_byte-requires
write_byte-requires c = rw (mark_spelled _ c.if-code-eq-FORBIDDEN.true) at c.requires

pub returns-then-code-eq-FORBIDDEN : goal.returns-then-code-eq-FORBIDDEN
returns-then-code-eq-FORBIDDEN c = rw (mark_spelled _ c.if-code-eq-FORBIDDEN.true) c.write_byte.ensures

pub write_number-requires : goal.write_number-requires
write_number-requires c = rw (number_spelled _ c.if-code-eq-FORBIDDEN.false) at c.requires

pub returns : goal.returns
returns c = rw (number_spelled _ c.if-code-eq-FORBIDDEN.false) c.write_number.ensures
