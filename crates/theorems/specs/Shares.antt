-- Request #104: the clinics' shares of an allowed plan add up to its total, and where no table joins the figures are what they were.
-- (Theorems that rest on these stand in `proofs/Shares.antt`.)
use Rattle.std.proofs.Common.{sym, ap, ◌∙◌, true≢false, arith, ◌≡◌, ◌∷◌}
use Rattle.definitions.specs.Basics.{ℕ, refl, true, false, not, some, option_get_or, List, [], map, is_empty, below, sum, any, keep, contains}
use Rattle.definitions.specs.Syntax.{Region, patient_at, patients_of}
use Rattle.definitions.specs.Plans.{entry_for, cost_over, total, Row}
use Rattle.definitions.specs.Sheets.{lowest, own_tables, own_cost}
use Rattle.definitions.specs.Questions.{patients_within, clinic_present, region_of, check_of}
use Rattle.definitions.specs.Isolation.{is_among, joins}
use Rattle.lists.specs.Keep.{keep_none}
use Rattle.theorems.specs.Sums.{sum_by_key}
use Rattle.theorems.specs.Fixed.{total_tables}
use Rattle.theorems.specs.Accepted.{Accepted, table_right}
use Rattle.theorems.specs.Lowest.{lowest_in_lem}
use Rattle.theorems.specs.Clinics.{clinic_patient, clinic_few, present_asked}

-- The total is that of the entries. A table counts for one clinic, and fixed beds cost nothing.
pub shares_add_up_lem : (region : Region) (w : Row) → patients_within region ≡ true → total region w.beds ≡ some w.cost
    → sum (map (λ c. own_cost region c w) (below 16)) ≡ w.cost
unfolding own_cost own_tables cost_over
shares_add_up_lem region w fits e =
    sum_by_key (entry_for region w.beds) (λ t. (patient_at region (lowest t.members)).clinic) 0 16 region.tables
    (λ t k. (omega arith, omega (arith, clinic_few region fits (lowest t.members)))) w.cost (total_tables region w.beds w.cost e)

-- Where no table joins the clinic, its own cost is what it was before: the sum over the tables whose members are all its patients.
abbrev pub FiguresStay : Type 0
FiguresStay = (file : List ℕ) → check_of file ≡ 0 → (c : ℕ) → any (joins (region_of file) c) (region_of file).tables ≡ false → (w : Row)
    → own_cost (region_of file) c w ≡ option_get_or (cost_over (keep (is_among (region_of file) c) (region_of file).tables) (region_of file) w.beds) 0

-- ---- the clinics that have patients

-- The others have no table, and no share.
pub no_share : (region : Region) → Accepted region → (c : ℕ) → clinic_present region c ≡ false → (w : Row) → own_cost region c w ≡ 0
unfolding own_cost own_tables cost_over
no_share region a c absent w =
    ap (λ tables. option_get_or (cost_over tables region w.beds) 0) (keep_none _ region.tables (λ t k.
    let right = table_right region a k in
    sym (clinic_patient region c (lowest t.members) (right.known (lowest_in_lem t.members right.some))) ∙ ap (λ l. contains l (lowest t.members)) nobody))
  where
    nobody : patients_of region c ≡ []
    nobody = go (patients_of region c) (sym (present_asked region c) ∙ absent)
      where
        go : (l : List ℕ) → not (is_empty l) ≡ false → l ≡ []
        go [] e = refl
        go (s ∷ l) e = absurd (true≢false e)
