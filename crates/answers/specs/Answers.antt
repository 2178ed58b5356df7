-- The number and values of every case of every enum answer about a file. (Those of entries that write one stand in `file_answers`.)
use Rattle.definitions.specs.Basics.{ℕ, true, false, List}
use Rattle.definitions.specs.Outcomes.{ListOutcome, PriceOutcome}
use Rattle.held_region.specs.declared.Refusal.{Refusal}
use Rattle.std.specs.Prelude as Code
use Rattle.held_region.specs.Refusals.{question_of, number_of}
use Rattle.answers.specs.declared.ListError.{ListError}
use Rattle.answers.specs.declared.ListError.TheVariants as Lists
use Rattle.answers.specs.declared.SheetError.{SheetError}
use Rattle.answers.specs.declared.SheetError.TheVariants as Sheets
use Rattle.answers.specs.declared.PriceError.{PriceError}
use Rattle.answers.specs.declared.PriceError.TheVariants as Prices
use Rattle.answers.specs.declared.PriceValues.{PriceValues}

-- A refusal, by the question answered no.
abbrev pub refusal_number : Refusal → ℕ
refusal_number refusal = question_of refusal

-- Check's answer: 0, or the refusal's number.
abbrev pub checked_number : Code.Result (Unit {0}) Refusal → ℕ
checked_number answer = number_of answer

-- An answer's number is 0, or that of the question answered no; an answer that counts has a count of 0 then.
abbrev pub number_by : {A E : Type 0} → (E → ℕ) → Code.Result A E → ℕ
number_by number (Code.Ok a) = 0
number_by number (Code.Err error) = number error

abbrev pub count_in : {E : Type 0} → Code.Result ℕ E → ℕ
count_in (Code.Ok n) = n
count_in (Code.Err error) = 0

-- List's answer: the number and the row count, beside the lent areas as they are afterwards.
abbrev pub list_error_number : ListError → ℕ
list_error_number (Lists.Refused refusal) = refusal_number refusal
list_error_number Lists.Short = 12
list_error_number Lists.Nothing = 13

abbrev pub listed_number : Code.Result ℕ ListError → ℕ
listed_number answer = number_by list_error_number answer

abbrev pub listed_rows : Code.Result ℕ ListError → ℕ
listed_rows answer = count_in answer

abbrev pub listed_outcome : Code.Result ℕ ListError → List ℕ → List ℕ → List ℕ → ListOutcome
listed_outcome answer beds costs work = record { number = listed_number answer; rows = listed_rows answer; beds = beds; costs = costs; work = work }

-- Sheet's answer, in the same way.
abbrev pub sheet_error_number : SheetError → ℕ
sheet_error_number (Sheets.Refused refusal) = refusal_number refusal
sheet_error_number Sheets.Absent = 11
sheet_error_number Sheets.Short = 12
sheet_error_number Sheets.Nothing = 13

abbrev pub sheeted_number : Code.Result ℕ SheetError → ℕ
sheeted_number answer = number_by sheet_error_number answer

abbrev pub sheeted_rows : Code.Result ℕ SheetError → ℕ
sheeted_rows answer = count_in answer

abbrev pub sheeted_outcome : Code.Result ℕ SheetError → List ℕ → List ℕ → List ℕ → ListOutcome
sheeted_outcome answer beds costs work = record { number = sheeted_number answer; rows = sheeted_rows answer; beds = beds; costs = costs; work = work }

-- Price's answer: the number, whether the plan is allowed, and its total, of which there is none where the plan is forbidden.
abbrev pub price_error_number : PriceError → ℕ
price_error_number (Prices.Refused refusal) = refusal_number refusal
price_error_number Prices.Misfit = 14

abbrev pub not_allowed : ℕ → PriceOutcome
not_allowed number = record { number = number; allowed = false; total = 0 }

abbrev pub priced_outcome : Code.Result (Code.Option ℕ) PriceError → PriceOutcome
priced_outcome (Code.Err error) = not_allowed (price_error_number error)
priced_outcome (Code.Ok Code.None) = not_allowed 0
priced_outcome (Code.Ok (Code.Some t)) = record { number = 0; allowed = true; total = t }

abbrev pub values_of : PriceValues → PriceOutcome
values_of values = record { number = values.number; allowed = values.allowed; total = values.total }
