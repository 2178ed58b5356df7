-- The text of a region whose list lies in the work area: the refusal by question 13, or the list and the sheets.
use mathlib.Core.Path.{◌≡◌, sym, ap, ◌∙◌}
use native.Mathlib.Omega.{arith}
use Prim.Native.Nat.{◌≤◌}
use Rattle.std.specs.Prelude.{◌∷◌}
use Rattle.definitions.specs.Basics.{ℕ, List, [], length, text}
use Rattle.definitions.specs.Syntax.{Region}
use Rattle.definitions.specs.Spelling.{decimal, line}
use Rattle.definitions.specs.Plans.{Row, list_of}
use Rattle.definitions.specs.Output.{printed_rows}
use Rattle.held_region.specs.declared.Region as Code
use Rattle.held_region.specs.Meaning.{said}
use Rattle.row_list.specs.Rows.{rows_in}
use Rattle.row_list.specs.Laws.{unpadded_long}
use Rattle.row_sums.specs.Sums.{work_part}
use Rattle.row_sums.specs.Areas.{part_long}
use Rattle.search.specs.Trees.{GivesRegion}
use Rattle.held_region.specs.Counts.{counts_few}
use Rattle.theorems.proofs.PlanAllowed.{list_none, list_some}
use Rattle.text_writer.specs.Wrote.{Room, Wrote, Left, none_yet, room_for, then_left, none_left}
use Rattle.row_printer.specs.Printing.{Printable}
use Rattle.printer.specs.Steps.{sheets_from, region_text, AsksText, AsksSheets, GivesSheets, GivesText}
use Rattle.printer.proofs.Texts.{nothing_text, text_parts}

-- The text of a list's rows.
abbrev list_text : List Row → List ℕ
list_text rows = printed_rows (text "list" ∷ []) rows

module _ (h : Code.Region) (store : List ℕ) (out work : List ℕ) (asks : AsksText h store out work) {n : ℕ} {area : List ℕ} (gives : GivesRegion h store work area n) where
  abbrev r : Region
  r = said h store

  few : n ≤ 64
  few = omega (arith, gives.count, (counts_few h store asks.accepted).1)

  -- As many rows as the list has.
  counted : n ≡ length (list_of r)
  counted = sym (unpadded_long h.v n (work_part 0 area)) ∙ ap length gives.list

  -- Question 13 is answered no.
  module _ (None-found : n ≡ 0) where
    nothing_said : region_text r ≡ line (text "refused" ∷ decimal 13 ∷ [])
    nothing_said = nothing_text r (list_none r asks.accepted counted None-found)

    pub refusal_room : Room (line (text "refused" ∷ decimal 13 ∷ [])) 0 out
    refusal_room =
        let same = nothing_said in
        omega (arith, ap length same, asks.room)

    pub nothing_printed : {after : List ℕ} {end : ℕ} → Wrote (line (text "refused" ∷ decimal 13 ∷ [])) 0 out after end → GivesText h store out after end
    nothing_printed wrote = let same = nothing_said in rw same wrote

  -- The list is left, then the sheets.
  module _ (some_found : n ≡ 0 → ⊥) where
    all_left : Left (region_text r) 0 out (list_text (rows_in h.v n (work_part 0 area)) ∷ sheets_from r 0 ∷ []) out 0
    all_left =
        let list = gives.list in
        rw list (none_yet _ (text_parts r (list_some r asks.accepted counted some_found)))

    pub list_printable : Printable (list_text (rows_in h.v n (work_part 0 area))) h.v n (work_part 0 area) 0 out
    list_printable =
        let part_is = part_long 0 area (omega (arith, gives.long, asks.long)) in
        record {
          patients = (counts_few h store asks.accepted).0;
          held = omega (arith, part_is, few);
          room = room_for all_left asks.room;
        }

    module _ {now : List ℕ} {at : ℕ} (wrote : Wrote (list_text (rows_in h.v n (work_part 0 area))) 0 out now at) where
      pub asks_sheets : AsksSheets h store n at now area
      asks_sheets =
          record {
            listed = record { accepted = asks.accepted; few = few; long = omega (arith, gives.long, asks.long); list = gives.list };
            room = room_for (then_left all_left wrote) asks.room;
          }

      pub text_printed : {after : List ℕ} {end : ℕ} → GivesSheets h store at now after end → GivesText h store out after end
      text_printed sheets = none_left (then_left (then_left (all_left) wrote) (sheets))
