-- A region whose numbers are cut off to go into 32 bits: none is the store's mark, and none is so low that a limit would let it pass.
use Rattle.std.specs.Prelude.{◌≡◌, refl, ◌≤◌}
use Rattle.std.proofs.Common.{sym, ap, ◌∙◌, arith, le-ltb, ◌<◌, ◌&&◌}
use Rattle.std.proofs.Math.Bool.{and-false}
use Rattle.std.proofs.Math.Decide.{dec_le}
use Rattle.std.proofs.lemmas.Bool.{lt-leb}
use Rattle.definitions.specs.Basics.{ℕ, min, Option, none, some, option_map, none_or, map, leb, ltb}
use Rattle.definitions.specs.Limits.{Field, limits, within}
use Rattle.definitions.specs.Syntax.{Patient, Table, Region}
use Rattle.definitions.specs.Writer.{with_sum}

-- The highest number that is no mark.
abbrev pub most : ℕ
most = 0xffff_fffe

abbrev pub cut : ℕ → ℕ
cut n = min n most

abbrev pub cut_option : Option ℕ → Option ℕ
cut_option o = option_map cut o

abbrev pub cut_patient : Patient → Patient
cut_patient p = record { clinic = cut p.clinic; bed_count = cut p.bed_count; parent = cut_option p.parent; fixed_bed = cut_option p.fixed_bed }

abbrev pub cut_table : Table → Table
cut_table t = record { members = map cut t.members; entries = map cut_option t.entries }

unfoldable pub cut_off : Region → Region
cut_off r = with_sum (record {
  patient_count = r.patient_count;
  table_count = r.table_count;
  plans_wanted = r.plans_wanted;
  patients = map cut_patient r.patients;
  tables = map cut_table r.tables;
  stated_sum = 0;
})

-- ---- a number

pub cut_low : (n : ℕ) → n ≤ most → cut n ≡ n
cut_low n few = omega arith

-- A number is within limits below the highest where it is within them once it is cut off; and so is it below a bound.
pub cut_within : (field : Field) (n : ℕ) → (limits field).highest < most → within field (cut n) ≡ within field n
unfolding within
cut_within field n small = go (dec_le n most)
  where
    low : ℕ
    low = (limits field).lowest

    high : ℕ
    high = (limits field).highest

    go : Dec (n ≤ most) → (leb low (cut n) && leb (cut n) high) ≡ (leb low n && leb n high)
    go (yes l) = ap (λ k. leb low k && leb k high) (cut_low n l)
    go (no l) =
        ap (λ b. leb low (cut n) && b) (lt-leb (cut n) high (omega arith)) ∙ and-false (leb low (cut n))
        ∙ sym (ap (λ b. leb low n && b) (lt-leb n high (omega arith)) ∙ and-false (leb low n))

pub cut_below : (n bound : ℕ) → bound ≤ most → ltb (cut n) bound ≡ ltb n bound
cut_below n bound small = go (dec_le n most)
  where
    go : Dec (n ≤ most) → ltb (cut n) bound ≡ ltb n bound
    go (yes l) = ap (λ k. ltb k bound) (cut_low n l)
    go (no l) = le-ltb (cut n) bound (omega arith) ∙ sym (le-ltb n bound (omega arith))

pub cut_option_within : (field : Field) (o : Option ℕ) → (limits field).highest < most → none_or (within field) (cut_option o) ≡ none_or (within field) o
cut_option_within field none small = refl
cut_option_within field (some n) small = cut_within field n small

pub cut_option_below : (o : Option ℕ) (bound : ℕ) → bound ≤ most → none_or (λ n. ltb n bound) (cut_option o) ≡ none_or (λ n. ltb n bound) o
cut_option_below none bound small = refl
cut_option_below (some n) bound small = cut_below n bound small
