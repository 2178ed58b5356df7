-- Request #106: two regions joined into one file.
use Rattle.std.specs.Prelude.{◌+◌, ◌&&◌, ◌∷◌, ◌++◌}
use Rattle.definitions.specs.Basics.{ℕ, min, compare, Ordering, Bool, not, cond, option_map, List, [], map, flat_map}
use Rattle.definitions.specs.Basics.{length, take, eqb, every, sort}
use Rattle.definitions.specs.Limits.{Field, patient_count, table_count, entry_count, within}
use Rattle.definitions.specs.Syntax.{Patient, Table, Region}
use Rattle.definitions.specs.Spelling.{spell}
use Rattle.definitions.specs.Plans.{Row, then_by, compare_beds}
use Rattle.definitions.specs.Questions.{entries_of, clinic_present, region_of, asked_by_check, check_of, Asked, Asks, entry_asks}
use Rattle.definitions.specs.Writer.{region_from, room_for_file, Made, made_by, output_after}

-- A patient of the second region behind the v patients of the first: the parent's number is v more.
abbrev pub patient_after : ℕ → Patient → Patient
patient_after v p = record { clinic = p.clinic; bed_count = p.bed_count; parent = option_map (λ q. v + q) p.parent; fixed_bed = p.fixed_bed }

-- A table of the second region: each member's number is v more.
abbrev pub table_after : ℕ → Table → Table
table_after v t = record { members = map (λ s. v + s) t.members; entries = t.entries }

-- The second's patients, tables and parents after the first's, with m the smaller of the two.
unfoldable pub joined_region : Region → Region → Region
joined_region r s =
    let v = length r.patients in
    region_from (min r.plans_wanted s.plans_wanted) (r.patients ++ map (patient_after v) s.patients) (r.tables ++ map (table_after v) s.tables)

-- The file of what two files say, joined.
unfoldable pub joined_file : List ℕ → List ℕ → List ℕ
joined_file f g = spell (joined_region (region_of f) (region_of g))

-- 16. Have they no clinic in common?
unfoldable pub clinics_apart : Region → Region → Bool
clinics_apart r s = every (λ p. not (clinic_present s p.clinic)) r.patients

-- 17. Do patients, tables and entries stay within 32, 64 and 4,096?
unfoldable pub join_within : Region → Region → Bool
join_within r s =
    let joined = joined_region r s in
    within patient_count joined.patient_count && within table_count joined.table_count && within entry_count (entries_of joined.tables)

-- Join asks 1 to 10 of the first file, then of the second, then 16, 17 and 15.
unfoldable pub asked_by_join : List ℕ → List ℕ → List ℕ → Asks
asked_by_join f g output = record {
  first = asked_by_check f ++ asked_by_check g;
  later =
      (16, clinics_apart (region_of f) (region_of g)) ∷ (17, join_within (region_of f) (region_of g)) ∷ (15, room_for_file (joined_file f g) output) ∷ [];
}

-- Which file a number of 1 to 10 is about; neither, for the numbers that follow.
pub data WhichFile : Type 0 where
  neither_file first_file second_file : WhichFile

unfoldable pub refused_file : List ℕ → List ℕ → WhichFile
refused_file f g = cond (eqb (check_of f) 0) (cond (eqb (check_of g) 0) neither_file second_file) first_file

-- What join makes; what is asked is handed in, since a call from C asks more.
abbrev pub join_made : List ℕ → List ℕ → Asked → Made
join_made f g asked = made_by asked (joined_file f g)

-- What join gives back: the number, which file it is about, the byte count, and the output area.
pub record JoinOutcome : Type 0 where
  pub number : ℕ
  pub which : WhichFile
  pub count : ℕ
  pub output : List ℕ

unfoldable pub join_outcome : List ℕ → List ℕ → List ℕ → JoinOutcome
join_outcome f g output =
    let made = join_made f g (entry_asks (asked_by_join f g output)) in
    record { number = made.number; which = refused_file f g; count = length made.bytes; output = output_after made output }

-- The words of its promise. Pairs of a row from each list come by added totals, then by the first's beds, then by the second's.
abbrev pub compare_pairs : Row × Row → Row × Row → Ordering
compare_pairs (v, w) (x, y) =
    then_by (compare (v.cost + w.cost) (x.cost + y.cost)) (then_by (compare_beds v.beds x.beds) (compare_beds w.beds y.beds))

-- A pair as a row of the joined file.
abbrev pub paired_row : Row × Row → Row
paired_row (v, w) = record { cost = v.cost + w.cost; beds = v.beds ++ w.beds }

-- Every pair of a row from each; the first m of them, as rows.
abbrev pub all_pairs : List Row → List Row → List (Row × Row)
all_pairs vs ws = flat_map (λ v. map (λ w. (v, w)) ws) vs

unfoldable pub first_pairs : ℕ → List Row → List Row → List Row
first_pairs m vs ws = map paired_row (take m (sort compare_pairs (all_pairs vs ws)))
