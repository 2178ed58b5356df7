-- A clinic's sheet: nothing where the clinic has no patients, or the rows from the second part of the work area.
use mathlib.Core.Path.{◌≡◌, refl, sym, ap, ◌∙◌}
use native.Mathlib.Omega.{arith}
use Rattle.std.specs.Prelude.{◌∷◌}
use Rattle.definitions.specs.Basics.{ℕ, Bool, true, false, not, cond, List, [], length, is_empty, text}
use Rattle.definitions.specs.Syntax.{Region}
use Rattle.definitions.specs.Spelling.{decimal}
use Rattle.definitions.specs.Plans.{Row}
use Rattle.definitions.specs.Sheets.{sheet_of}
use Rattle.definitions.specs.Output.{printed_rows}
use Rattle.patient_set.specs.Sets.{members}
use Rattle.patient_set.specs.Laws.{size_most}
use Rattle.held_region.specs.declared.Region as Code
use Rattle.held_region.specs.Meaning.{said}
use Rattle.definitions.specs.Syntax.{patients_of}
use Rattle.row_list.specs.Rows.{rows_in}
use Rattle.row_sums.specs.Sums.{work_part}
use Rattle.row_sums.specs.Areas.{part_long}
use Rattle.sheets.specs.Sheets.{Given, Asks, Gives}
use Rattle.theorems.specs.Clinics.{present_asked}
use Rattle.text_writer.specs.Wrote.{Wrote}
use Rattle.row_printer.specs.Printing.{Printable}
use Rattle.printer.specs.Steps.{clinic_text, AsksClinic, GivesClinic}

-- The text of a clinic's rows.
abbrev sheet_text : ℕ → List Row → List ℕ
sheet_text c rows = printed_rows (text "sheet" ∷ decimal c ∷ []) rows

module _ (h : Code.Region) (store : List ℕ) {n clinic at : ℕ} (out work : List ℕ) (asks : AsksClinic h store n clinic at out work) (set : ℕ) (held : members set ≡ patients_of (said h store) clinic)
    {empty : Bool} (told : empty ≡ is_empty (members set)) where
  abbrev r : Region
  r = said h store

  -- What is printed, by whether the set is empty.
  text_said : {answer : Bool} → empty ≡ answer → clinic_text r clinic ≡ cond (not answer) (sheet_text clinic (sheet_of r clinic)) []
  unfolding clinic_text
  text_said e =
      ap (λ b. cond b (sheet_text clinic (sheet_of r clinic)) [])
      (present_asked r clinic ∙ ap (λ m. not (is_empty m)) (sym held) ∙ ap not (sym told ∙ e))

  pub clinic_absent : empty ≡ true → GivesClinic h store n clinic at out work out work at
  clinic_absent e = record {
    kept = record { long = refl; list = refl };
    wrote = let none = text_said e in rw none (record { bytes = refl; next = omega arith });
  }

  given : Given h store clinic n set work
  given = record { list = asks.listed.list; patients = held }

  pub asks_sheet : Asks h store n set work
  asks_sheet =
      let accepted = asks.listed.accepted in
      record {
        accepted = accepted;
        clinic = clinic;
        given = given;
        few = asks.listed.few;
        long = asks.listed.long;
      }

  -- The rows of the sheet lie in the second part of the work area, with k beds a row.
  module _ (present : empty ≡ false) {k count : ℕ} {area : List ℕ} (gives : Gives h store n set work area count) (wide : k ≡ length (members set)) where
    rows_said : sheet_text clinic (rows_in k count (work_part 1 area)) ≡ clinic_text r clinic
    rows_said =
        ap (sheet_text clinic) (ap (λ w. rows_in w count (work_part 1 area)) wide ∙ gives.sheet clinic given) ∙ sym (text_said present)

    pub printable : Printable (sheet_text clinic (rows_in k count (work_part 1 area))) k count (work_part 1 area) at out
    printable =
        let part_is = part_long 1 area (omega (arith, gives.long, asks.listed.long)) in
        let same = rows_said in
        record {
          patients = omega (arith, wide, size_most set);
          held = omega (arith, part_is, gives.count, asks.listed.few);
          room = rw same asks.room;
        }

    pub clinic_printed : {after : List ℕ} {end : ℕ} → Wrote (sheet_text clinic (rows_in k count (work_part 1 area))) at out after end
        → GivesClinic h store n clinic at out work after area end
    clinic_printed wrote = record {
      kept = record { long = gives.long; list = gives.list };
      wrote = let same = rows_said in rw (← same) wrote;
    }
