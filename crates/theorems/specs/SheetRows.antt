-- A sheet holds each differing clinic part of its list once, with the own cost of the row where it first came.
-- (Theorems that rest on these stand in `proofs/SheetRows.antt`.)
use Rattle.std.proofs.Common.{sym, subst, ◌≡◌, ◌∷◌, ◌++◌}
use Rattle.definitions.specs.Basics.{ℕ, List, [], map, length}
use Rattle.definitions.specs.Syntax.{Region}
use Rattle.definitions.specs.Plans.{Plan, Row, list_of}
use Rattle.definitions.specs.Sheets.{part, own_row, sheet_of}
use Rattle.lists.specs.Members.{◌∈◌, Enumerates, in_map, in_cast}
use Rattle.lists.specs.Maps.{map_split}
use Rattle.ranking.specs.Occurrences.{KeptOnce, kept_once}
use Rattle.theorems.specs.Sameness.{beds_tests}

module _ (region : Region) (c : ℕ) where
  pub kept : KeptOnce (λ (w : Row). w.beds) [] (map (own_row region c) (list_of region)) (sheet_of region c)
  unfolding sheet_of
  kept = kept_once beds_tests [] (map (own_row region c) (list_of region))

  -- The clinic parts that occur in the list.
  abbrev pub PartInList : Plan → Type 0
  PartInList p = p ∈ map (λ w. part region c w.beds) (list_of region)

  -- A row of the sheet is the clinic's own row of a row of the list, and in no row before this one did its beds come.
  pub record FirstCame (v : Row) : Type 0 where
    pub before : List Row
    pub row : Row
    pub after : List Row
    pub in_list : list_of region ≡ before ++ row ∷ after
    pub own : own_row region c row ≡ v
    pub not_before : (w : Row) → w ∈ before → part region c w.beds ≡ v.beds → ⊥

  pub sheet_first_came : (v : Row) → v ∈ sheet_of region c → FirstCame v
  unfolding own_row
  sheet_first_came v k =
      let first = kept.first v k in
      let (before, row, after, is, same, own) = map_split (own_row region c) (list_of region) first.before v first.after first.stands in
      record {
        before = before;
        row = row;
        after = after;
        in_list = is;
        own = own;
        not_before = λ w i e. first.new (subst (λ (rows : List Row). v.beds ∈ map (λ w. w.beds) rows) same (in_cast (sym e) (in_map (λ (w : Row). w.beds) (in_map (own_row region c) i))));
      }

  -- So it has as many rows as the list has differing clinic parts.
  abbrev pub SheetCount : Type 0
  SheetCount = (parts : List Plan) → Enumerates PartInList parts → length (sheet_of region c) ≡ length parts
