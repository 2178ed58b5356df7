-- The walk along the list, row by row.
use mathlib.Core.Path.{◌≡◌, refl, sym, ap, ◌∙◌}
use Prim.Native.Nat.{◌≤◌}
use native.Mathlib.Numerals.{add-one}
use native.Mathlib.Omega.{arith}
use lib.ListN.{drop, drop_of_length-le}
use lib.Seq.{drop-cons}
use Rattle.std.specs.Prelude.{◌+◌, ◌*◌, ◌<◌, ◌∷◌}
use Rattle.definitions.specs.Basics.{ℕ, suc, List, [], map, length, get_or, take}
use Rattle.definitions.specs.Syntax.{Region}
use Rattle.definitions.specs.Plans as Said
use Rattle.definitions.specs.Plans.{list_of}
use Rattle.definitions.specs.Sheets.{own_row, sheet_of}
use Rattle.lists.specs.Members.{◌∈◌, get_d_in, none_in_nil}
use Rattle.theorems.proofs.List.{right_list}
use Rattle.patient_set.specs.Sets.{members}
use Rattle.patient_set.specs.Laws.{size_most}
use Rattle.buckets.specs.Terms.{Fitting}
use Rattle.partial_rows.specs.Padding.{unpadded, Padded}
use Rattle.packed_rows.specs.declared.Row.{Row}
use Rattle.packed_rows.specs.Packed.{row_of}
use Rattle.row_list.specs.Rows.{whole_row, whole_rows, rows_in}
use Rattle.row_list.specs.Laws.{rows_none, unpadded_long, unpadded_at}
use Rattle.row_sums.specs.Sums.{work_part, whole_at, list_at}
use Rattle.row_sums.specs.Areas.{replaced, replaced_long, part_new, part_before, part_long}
use Rattle.sheets.specs.Steps.{AsksOwn, GivesOwn, Room, with_new, Kept, Listed, AsksList, GivesList}
use Rattle.sheets.proofs.Own.{listed_fits}
use Rattle.sheets.proofs.Keeping.{sheet_from, from_next, from_done, new_padded, new_unpadded}
use Rattle.bucket_words.specs.declared.PatientBucket.{PatientBucket}
use Rattle.bucket_words.specs.declared.TableTerm.{TableTerm}

-- At row i of the list: the rows kept so far, and the first occurrences of the own rows that are left, are the sheet.
pub record Walked (store : List ℕ) (patients : List PatientBucket) (terms : List TableTerm) (v n set : ℕ) (first : List ℕ) (i : ℕ) (work : List ℕ) (kept : ℕ) : Type 0 where
  pub most : i ≤ n
  pub count : kept ≤ i
  pub long : length work ≡ length first
  pub list : work_part 0 work ≡ work_part 0 first
  pub padded : (z : Said.Row) → z ∈ whole_at kept 1 work → Padded (length (members set)) z
  pub sheet : (r : Region) (clinic : ℕ) → Listed r clinic store patients terms v n set first
      → sheet_from (list_at (length (members set)) kept 1 work) (map (own_row r clinic) (drop i (list_of r))) ≡ sheet_of r clinic

module _ (store : List ℕ) (patients : List PatientBucket) (terms : List TableTerm) (v n set : ℕ) (first : List ℕ) where
  abbrev size : ℕ
  size = length (members set)

  pub walked_start : Walked store patients terms v n set first 0 first 0
  unfolding sheet_of
  walked_start =
      record {
        most = omega arith;
        count = omega arith;
        long = refl;
        list = refl;
        padded = λ z m. absurd (none_in_nil (rw (rows_none (work_part 1 first)) at m));
        sheet = λ r clinic l. ap (λ rows. sheet_from (map (unpadded size) rows) (map (own_row r clinic) (list_of r))) (rows_none (work_part 1 first));
      }

  module _ (i : ℕ) (work : List ℕ) (kept : ℕ) (w : Walked store patients terms v n set first i work kept) where
    pub walked_done : n ≤ i → GivesList store patients terms v n set first work kept
    walked_done h =
        record {
          count = omega (arith, w.count, w.most);
          long = w.long;
          list = w.list;
          sheet = λ r clinic l.
              let none_left : drop i (list_of r) ≡ [] = drop_of_length-le (list_of r) {i = i} (omega (arith, sym (ap length l.list) ∙ unpadded_long v n (work_part 0 first))) in
              sym (from_done (list_at size kept 1 work))
              ∙ ap (λ rows. sheet_from (list_at size kept 1 work) (map (own_row r clinic) rows)) (sym none_left) ∙ w.sheet r clinic l;
        }

    module _ (more : i < n) where
      -- There is room for the next row.
      pub walked_room : n ≤ 64 → 1_152 ≤ length first → Room kept (work_part 1 work)
      walked_room few long = record { few = omega (arith, w.count); long = omega (arith, part_long 1 work (omega (arith, w.long))) }

      module _ (row : Row) (read : row_of row ≡ whole_row (work_part 0 work) i) where
        module _ (r : Region) (clinic : ℕ) (l : Listed r clinic store patients terms v n set first) where
          abbrev no_row : Said.Row
          no_row = record { cost = 0; beds = [] }

          -- The row that is read is the list's.
          rows_left : length (list_of r) ≡ n
          rows_left = sym (ap length l.list) ∙ unpadded_long v n (work_part 0 first)

          read_row : unpadded v (row_of row) ≡ get_or (list_of r) i no_row
          read_row =
              ap (unpadded v) read ∙ unpadded_at v n (work_part 0 work) i no_row more
              ∙ ap (λ rows. get_or rows i no_row) (ap (rows_in v n) w.list ∙ l.list)

          read_fits : Fitting r (row_of row).beds
          read_fits =
              listed_fits r (get_or (list_of r) i no_row) (row_of row).beds ((right_list r).only_allowed _ (get_d_in (list_of r) i no_row (omega (arith, rows_left))))
              (ap (λ m. take m (row_of row).beds) (sym l.own.all) ∙ ap (λ (z : Said.Row). z.beds) read_row)

          next_row : drop i (list_of r) ≡ unpadded v (row_of row) ∷ drop (suc i) (list_of r)
          next_row = drop-cons (list_of r) i no_row (omega (arith, rows_left)) ∙ ap (λ z. z ∷ drop (suc i) (list_of r)) (sym read_row)

        pub walked_asks : AsksList store patients terms v n set first → AsksOwn store patients terms v row set
        walked_asks a =
            record {
              region = a.region;
              clinic = a.clinic;
              own = a.listed.own;
              fits = read_fits a.region a.clinic a.listed;
              few = a.few_patients;
            }

        -- One more row.
        pub walked_next : (own : Row) (new : List ℕ) (after : ℕ) → 1_152 ≤ length first → GivesOwn store patients terms v row set own → Kept kept own (work_part 1 work) new after
            → Walked store patients terms v n set first (i + 1) (replaced 384 new work) after
        walked_next own new after far made g =
            record {
              most = omega arith;
              count = omega (arith, g.count, w.count);
              long = replaced_long 1 work new fits long ∙ w.long;
              list = part_before 1 work new fits long 0 (omega arith) ∙ w.list;
              padded = λ z m. new_padded size few (row_of own) made.padded (whole_at kept 1 work) w.padded z (rw rows at m);
              sheet = λ r clinic l.
                  let rest = map (own_row r clinic) (drop (suc i) (list_of r)) in
                  rw add-one
                  (ap (λ rows. sheet_from rows rest) (unpadded_rows ∙ ap (λ x. with_new x (list_at size kept 1 work)) (made.is r clinic l.own (read_fits r clinic l)))
                  ∙ sym (from_next (own_row r clinic (unpadded v (row_of row))) rest (list_at size kept 1 work))
                  ∙ ap (λ rows. sheet_from (list_at size kept 1 work) (map (own_row r clinic) rows)) (sym (next_row r clinic l))
                  ∙ w.sheet r clinic l);
            }
          where
            few : size ≤ 32
            few = size_most set

            fits : 1 * 384 + 384 ≤ length work
            fits = omega (arith, w.long)

            long : length new ≡ 384
            long = g.long ∙ part_long 1 work fits

            rows : whole_at after 1 (replaced 384 new work) ≡ with_new (row_of own) (whole_at kept 1 work)
            rows = ap (whole_rows after) (part_new 1 work new fits long) ∙ g.rows

            unpadded_rows : list_at size after 1 (replaced 384 new work) ≡ with_new (unpadded size (row_of own)) (list_at size kept 1 work)
            unpadded_rows = ap (map (unpadded size)) rows ∙ new_unpadded size few (row_of own) made.padded (whole_at kept 1 work) w.padded
