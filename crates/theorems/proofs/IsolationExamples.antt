-- Demand 3 on files written out: its hypotheses can be met by files that differ in all else, and a table that joins does make a difference, and so does a fixed bed.
use Rattle.definitions.specs.Questions.{region_of}
use Rattle.definitions.specs.Sheets.{sheet_of}
use Rattle.definitions.specs.Isolation.{SameBeginning}
use Rattle.theorems.proofs.Agreement.{same_beginning_lem}
use Rattle.theorems.specs.IsolationExamples.{between, apart, stayed, apart_alike, otherwise, fixed_differs}

-- Demand 3 speaks of them.
pub alike : SameBeginning (sheet_of (region_of between) 0) (sheet_of (region_of apart) 0)
alike = same_beginning_lem between apart 0 apart_alike.first_yields apart_alike.second_yields apart_alike.same_clinic

pub not_alike_fixed : SameBeginning (sheet_of (region_of between) 0) (sheet_of (region_of stayed) 0) → ⊥
not_alike_fixed h = otherwise (rw (apart_alike.first_sheet, fixed_differs.second_sheet) at h)
