-- What a found line says, as document 02 gives it back.
use Rattle.std.specs.Prelude.{Result, Ok, Err}
use Rattle.definitions.specs.Basics.{ℕ}
use Rattle.definitions.specs.Lookup.{FilePart, LineOutcome}
use Rattle.answers.specs.Answers.{refusal_number}
use Rattle.line_finder.specs.declared.LineError.{LineError}
use Rattle.line_finder.specs.declared.LineError.TheVariants.{Refused, Typed}
use Rattle.line_finder.specs.declared.Part.{Part}

abbrev pub line_error_number : LineError → ℕ
line_error_number (Refused refusal) = refusal_number refusal
line_error_number Typed = 21

abbrev pub part_said : Part → FilePart
part_said part = record { start = part.start; size = part.size }

-- The empty part at the end of a file of this length.
abbrev pub no_line : ℕ → ℕ → LineOutcome
no_line number length = record { number = number; part = record { start = length; size = 0 } }

abbrev pub line_of : ℕ → Result Part LineError → LineOutcome
line_of length (Ok part) = record { number = 0; part = part_said part }
line_of length (Err error) = no_line (line_error_number error) length
