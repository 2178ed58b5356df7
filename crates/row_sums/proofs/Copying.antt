-- The sums copied over the first list, row by row.
use mathlib.Core.Path.{◌≡◌, refl, sym, ap, ap₂, ◌∙◌}
use native.Mathlib.Numerals.{add-one}
use native.Mathlib.Omega.{arith}
use Prim.Native.Nat.{◌≤◌}
use Rattle.std.specs.Prelude.{◌+◌, ◌∷◌, ◌++◌}
use Rattle.definitions.specs.Basics.{ℕ, suc, List, [], length}
use Rattle.definitions.specs.Plans as Said
use Rattle.packed_rows.specs.declared.Row.{Row}
use Rattle.packed_rows.specs.Packed.{row_of}
use Rattle.row_list.specs.Rows.{whole_row, whole_rows, Stored}
use Rattle.row_list.specs.Laws.{rows_before, rows_none, rows_more}
use Rattle.row_sums.specs.Sums.{work_part}
use Rattle.row_sums.specs.Steps.{Copied}
use Rattle.row_sums.specs.Areas.{replaced, replaced_long, part_new, part_after, part_long}

module _ (work : List ℕ) where
  pub none_copied : Copied 0 work work
  none_copied = record { rows = rows_none (work_part 0 work) ∙ sym (rows_none (work_part 2 work)); kept = refl; long = refl }

  pub one_copied : (i : ℕ) (now new : List ℕ) (x : Row) → 1_152 ≤ length now → Copied i work now → row_of x ≡ whole_row (work_part 2 now) i → Stored i x (work_part 0 now) new
      → Copied (i + 1) work (replaced 0 new now)
  one_copied i now new x l c read s = record {
    rows = rw add-one (ap (whole_rows (suc i)) (part_new 0 now new fits long) ∙ rows_more i new
        ∙ ap₂ (λ (k : List Said.Row) (z : Said.Row). k ++ (z ∷ [])) (rows_before i x (work_part 0 now) new s ∙ c.rows)
        (s.row ∙ read ∙ ap (λ (p : List ℕ). whole_row p i) c.kept)
        ∙ sym (rows_more i (work_part 2 work)));
    kept = part_after 0 now new fits long 2 (omega arith) ∙ c.kept;
    long = replaced_long 0 now new fits long ∙ c.long;
  }
    where
      fits : 384 ≤ length now
      fits = omega arith

      long : length new ≡ 384
      long = s.long ∙ part_long 0 now fits
