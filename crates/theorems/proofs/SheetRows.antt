-- A sheet holds each differing clinic part of its list once, with the own cost of the row where it first came.
use Rattle.std.proofs.Common.{sym, ap, ◌∙◌, subst, inl, inr, arith, ◌+◌, ◌≡◌}
use mathlib.Core.List.{map-map}
use Rattle.std.proofs.lemmas.List.{length-map}
use Rattle.definitions.specs.Basics.{ℕ, refl, List, map, length, take, sort}
use Rattle.definitions.specs.Syntax.{Region}
use Rattle.definitions.specs.Plans.{Plan, Row, list_of}
use Rattle.definitions.specs.Sheets.{part, own_row, sheet_of}
use Rattle.lists.specs.Members.{◌∈◌, Enumerates, here, none_in_nil, in_append_right, in_map, in_map_cases, in_cast}
use Rattle.ranking.specs.Orders.{Order, list_order}
use Rattle.ranking.specs.First.{First}
use Rattle.ranking.proofs.Sorting.{first_of, first_count_lem}
use Rattle.theorems.specs.SheetRows
use Rattle.theorems.specs.SheetRows.{kept, sheet_first_came, SheetCount}

-- Lists that enumerate one set are equally long.
enumerations_long : {A : Type 0} (O : Order A) {P : A → Type 0} {l k : List A} → Enumerates P l → Enumerates P k → length l ≡ length k
enumerations_long O {P} {l} {k} e d =
    let h : First O (length l + length k) P (take (length l + length k) (sort O.cmp l)) = first_of e in
    omega (arith, first_count_lem e h, first_count_lem d h)

module _ (region : Region) (c : ℕ) where
  abbrev PartInList : Plan → Type 0
  PartInList = SheetRows.PartInList region c

  parts_are : map (λ w. w.beds) (map (own_row region c) (list_of region)) ≡ map (λ w. part region c w.beds) (list_of region)
  unfolding own_row
  parts_are = map-map (λ (w : Row). w.beds) (own_row region c) (list_of region)

  pub sheet_rows : (v : Row) → v ∈ sheet_of region c → (w : Row) × (w ∈ list_of region) × (own_row region c w ≡ v)
  sheet_rows v k = let came = sheet_first_came region c v k in (came.row, subst (λ (l : List Row). came.row ∈ l) (sym came.in_list) (in_append_right came.before (here refl)), came.own)

  -- The beds of its rows are the clinic parts in the list, each once.
  pub sheet_parts : Enumerates PartInList (map (λ w. w.beds) (sheet_of region c))
  sheet_parts = record {
    distinct = (kept region c).differ;
    only = λ p k.
        let (v, i, e) = in_map_cases (λ (w : Row). w.beds) (sheet_of region c) k in
        let (w, in_list, own) = sheet_rows v i in
        rw parts_are at (in_cast (sym (ap (λ (x : Row). x.beds) own ∙ e)) (in_map (λ (w : Row). w.beds) (in_map (own_row region c) in_list)));
    every = λ p k.
        let (v, i, e) = in_map_cases (λ (w : Row). w.beds) (map (own_row region c) (list_of region)) (rw (← parts_are) at k) in
        elim ((kept region c).every v i) [ inl h ↦ in_cast (sym e) h | inr h ↦ absurd (none_in_nil h) ];
  }

  pub sheet_count : SheetCount region c
  sheet_count parts e = sym (length-map (sheet_of region c) (λ w. w.beds)) ∙ enumerations_long list_order sheet_parts e
