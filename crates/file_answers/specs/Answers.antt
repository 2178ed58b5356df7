-- The number and values of every case of every enum answer of an entry that writes a file.
use Rattle.std.specs.Prelude as Code
use Rattle.definitions.specs.Basics.{ℕ, List}
use Rattle.definitions.specs.Writer.{WriteOutcome}
use Rattle.definitions.specs.Joining.{WhichFile, neither_file, first_file, second_file, JoinOutcome}
use Rattle.answers.specs.Answers.{refusal_number, number_by, count_in}
use Rattle.file_answers.specs.declared.WriteError.{WriteError}
use Rattle.file_answers.specs.declared.WriteError.TheVariants as Writes
use Rattle.file_answers.specs.declared.JoinError.{JoinError}
use Rattle.file_answers.specs.declared.JoinError.TheVariants as Joins

-- Write's answer: the number and the byte count, beside the output area as it is afterwards.
abbrev pub write_error_number : WriteError → ℕ
write_error_number (Writes.Refused refusal) = refusal_number refusal
write_error_number Writes.Short = 15

abbrev pub written_number : Code.Result ℕ WriteError → ℕ
written_number answer = number_by write_error_number answer

abbrev pub written_count : Code.Result ℕ WriteError → ℕ
written_count answer = count_in answer

abbrev pub written_outcome : Code.Result ℕ WriteError → List ℕ → WriteOutcome
written_outcome answer output = record { number = written_number answer; count = written_count answer; output = output }

-- Join's answer: the number, which file it is about, and the byte count, beside the output area as it is afterwards.
abbrev pub join_error_number : JoinError → ℕ
join_error_number (Joins.FirstRefused refusal) = refusal_number refusal
join_error_number (Joins.SecondRefused refusal) = refusal_number refusal
join_error_number Joins.Shared = 16
join_error_number Joins.TooMany = 17
join_error_number Joins.Short = 15

abbrev pub join_error_file : JoinError → WhichFile
join_error_file (Joins.FirstRefused refusal) = first_file
join_error_file (Joins.SecondRefused refusal) = second_file
join_error_file Joins.Shared = neither_file
join_error_file Joins.TooMany = neither_file
join_error_file Joins.Short = neither_file

abbrev pub joined_number : Code.Result ℕ JoinError → ℕ
joined_number answer = number_by join_error_number answer

abbrev pub joined_which : Code.Result ℕ JoinError → WhichFile
joined_which (Code.Ok n) = neither_file
joined_which (Code.Err error) = join_error_file error

abbrev pub joined_count : Code.Result ℕ JoinError → ℕ
joined_count answer = count_in answer

abbrev pub joined_outcome : Code.Result ℕ JoinError → List ℕ → JoinOutcome
joined_outcome answer output = record { number = joined_number answer; which = joined_which answer; count = joined_count answer; output = output }
