use Rattle.std.proofs.Common.{ap}
use Rattle.scanner.specs.Answers.{entry_read}
use Rattle.line_reader.proofs.Forms.{number_field, hyphen_field, hyphen_field_missing}
use Rattle.line_reader.proofs.field_at.Goals as goal

pub returns-in-Number : goal.returns-in-Number
returns-in-Number c = number_field c.in-Number.is c.number_at.ensures

pub returns-in_err-said-in-Optional : goal.returns-in_err-said-in-Optional
returns-in_err-said-in-Optional c = rw c.from_residual.ensures (hyphen_field_missing c.in-Optional.is c.hyphen_or_number_at.ensures (ap entry_read c.in_err-said-in-Optional.was))

pub returns-in_ok-said-in-Optional : goal.returns-in_ok-said-in-Optional
returns-in_ok-said-in-Optional c = hyphen_field c.in-Optional.is c.hyphen_or_number_at.ensures (ap entry_read c.in_ok-said-in-Optional.was) c.code_of.ensures
