-- What the walk asks for and gives.
use Rattle.std.specs.Prelude.{set, ◌≤◌, ◌+◌, ◌-◌, ◌*◌, ◌<◌, ◌≡◌, ◌&&◌, ◌∷◌}
use Rattle.definitions.specs.Basics.{ℕ, Bool, true, not, Option, List, map, length, get_or, take, sum, eqb, contains}
use Rattle.definitions.specs.Syntax.{Region, patient_at}
use Rattle.definitions.specs.Plans.{Plan, place_in, Row, bed_of, cost_over, compare_rows}
use Rattle.theorems.specs.Accepted.{most_total}
use Rattle.lists.specs.Members.{◌∈◌}
use Rattle.ranking.specs.Growing.{Grown, Ready}
use Rattle.theorems.specs.List.{row_order}
use Rattle.patient_set.specs.declared.PatientSet.{PatientSet}
use Rattle.patient_set.specs.Sets.{members}
use Rattle.partial_rows.specs.Sets.{Patients}
use Rattle.partial_rows.specs.Rows.{holds, Branch, Position}
use Rattle.held_region.specs.Stores.{table_at}
use Rattle.bucket_words.specs.Words.{least_at}
use Rattle.bucket_words.specs.Kept.{Kept}
use Rattle.kept_places.specs.Moves.{Linked}
use Rattle.buckets.specs.Terms.{Fitting, highest, least_in, Prepared, Numbered}
use Rattle.pricing.specs.declared.Plan as Code
use Rattle.partial_rows.specs.Padding.{unpadded, Padded}
use Rattle.packed_rows.specs.Packed.{is_before}
use Rattle.row_list.specs.Rows.{whole_rows, row_in, rows_in, Room}
use Rattle.search.specs.Decided.{decided_at}
use Rattle.search.specs.Lowest.{Upward}
use Rattle.search.specs.declared.walk.Head.{Head}
use Rattle.search.specs.declared.walk.Sources.{Sources}
use Rattle.bucket_words.specs.declared.PatientBucket.{PatientBucket}
use Rattle.bucket_words.specs.declared.TableTerm.{TableTerm}
use Rattle.kept_places.specs.declared.Moves.{Moves}

-- A branch: who is left, the plan so far, its cost, and a lower bound of what the rest costs. The head of one, with its beds.
pub record Branching : Type 0 where
  pub left : PatientSet
  pub plan : Code.Plan
  pub cost : ℕ
  pub bound : ℕ

abbrev pub branch_at : Head → List ℕ → Branching
branch_at head beds = record { left = head.left; plan = record { beds = beds; len = head.placed }; cost = head.cost; bound = head.bound }

-- The patients that are left; is a patient left? The row of the beds and the cost so far.
abbrev pub remaining : Branching → List ℕ
remaining head = members head.left.0

abbrev pub left_in : Branching → ℕ → Bool
left_in head = contains (remaining head)

abbrev pub head_row : ℕ → Branching → Row
head_row v head = record { cost = head.cost; beds = take v head.plan.beds }

-- A head whose beds and sums fit: the cost grows with the patients placed.
pub record SumsFit (head : Branching) : Type 0 where
  pub beds : length head.plan.beds ≡ 32
  pub low : (q : ℕ) → bed_of head.plan.beds q < 16
  pub placed : head.plan.len + length (remaining head) ≤ 32
  pub cost : head.cost ≤ head.plan.len * most_total
  pub bound : head.bound ≤ 137_438_953_472

-- A head of a branch in a region: its bound is the sum of the least numbers of the buckets of those who are left.
pub record Heads (r : Region) (store : List ℕ) (patients : List PatientBucket) (terms : List TableTerm) (v : ℕ) (head : Branching) : Type 0 where
  pub prepared : Prepared r store patients terms
  pub counted : v ≡ length r.patients
  pub few : v ≤ 32
  pub fits : Fitting r head.plan.beds
  pub position : Position r (left_in head) head.plan.beds (head_row v head)
  pub upward : Upward r (left_in head)
  pub bound : head.bound ≡ sum (map (least_in r) (remaining head))

-- The rows of the branch below a head.
abbrev pub BranchOf : Region → ℕ → Branching → Row → Type 0
BranchOf r v head = Branch r (left_in head) head.plan.beds (head_row v head)

-- ---- one more bed

pub record AsksNext (store : List ℕ) (patients : List PatientBucket) (terms : List TableTerm) (head : Branching) (s bed : ℕ) : Type 0 where
  pub region : Region
  pub v : ℕ
  pub heads : Heads region store patients terms v head
  pub sums_fit : SumsFit head
  pub others : List ℕ
  pub lowest : remaining head ≡ s ∷ others
  pub fits : bed < (patient_at region s).bed_count

-- The head below a bed that costs c.
pub record Below (patients : List PatientBucket) (head : Branching) (s bed c : ℕ) (below : Branching) : Type 0 where
  pub left : remaining head ≡ s ∷ remaining below
  pub beds : below.plan.beds ≡ set head.plan.beds s bed
  pub len : below.plan.len ≡ head.plan.len + 1
  pub cost : below.cost ≡ head.cost + c
  pub most : c ≤ most_total
  pub bound : below.bound ≡ head.bound - least_at patients s

-- What the bed decides costs so much, or is forbidden, in every region that the head is one of.
abbrev pub Decides : List ℕ → List PatientBucket → List TableTerm → Branching → ℕ → ℕ → Option ℕ → Type 0
Decides store patients terms head s bed cost =
    (r : Region) (v : ℕ) → Heads r store patients terms v head → bed < (patient_at r s).bed_count → cost_over (decided_at r s) r (set head.plan.beds s bed) ≡ cost

-- What is left without the lowest patient.
pub record AsksRest (patients : List PatientBucket) (bound s : ℕ) : Type 0 where
  pub few : s < 32
  pub least : least_at patients s ≤ bound

pub record GivesRest (patients : List PatientBucket) (before : List ℕ) (least s : ℕ) (rest : PatientSet × ℕ) : Type 0 where
  pub left : (others : List ℕ) → before ≡ s ∷ others → before ≡ s ∷ members rest.0.0
  pub bound : rest.1 ≡ least - least_at patients s

-- The first n rows of a list have bed 0 from patient v on.
abbrev pub AllPadded : ℕ → ℕ → List ℕ → Type 0
AllPadded v n area = (z : Row) → z ∈ whole_rows n area → Padded v z

-- ---- the cut

-- The list is full, and a row of this cost and these beds is not before its last row.
unfoldable pub is_past : ℕ → ℕ → ℕ → List ℕ → ℕ → List ℕ → Bool
is_past v n m area cost beds = eqb n m && not (is_before (compare_rows (unpadded v (record { cost = cost; beds = beds })) (row_in v area (m - 1))))

pub record AsksCut (v n m : ℕ) (area : List ℕ) (plan : Code.Plan) (s bed : ℕ) : Type 0 where
  pub patients : v ≤ 32
  pub room : Room n m area
  pub padded : AllPadded v n area
  pub few : s < 32
  pub not_all : plan.len < 32
  pub long : length plan.beds ≡ 32
  pub low : (q : ℕ) → q < v → bed_of (set plan.beds s bed) q < 16

-- ---- the walk

-- The kept places: of each table with a member who is left, the place worked out from all of its members, with bed 0 for one who has none yet.
-- Of every table it lacks the bed of the highest member alone, whose entries lie side by side.
pub record PlacesKept (r : Region) (left : Patients) (beds : Plan) (places : List ℕ) : Type 0 where
  pub place : (k : ℕ) → k < length r.tables → holds left (table_at r k) ≡ true → get_or places k 0 ≡ place_in r beds (table_at r k)
  pub every : (k s : ℕ) → k < length r.tables → highest s (table_at r k) ≡ true → get_or places k 0 + bed_of beds s ≡ place_in r beds (table_at r k)

pub record Asks (store : List ℕ) (patients : List PatientBucket) (terms : List TableTerm) (moves : Moves) (v n m : ℕ) (area places : List ℕ) (head : Branching) : Type 0 where
  pub region : Region
  pub heads : Heads region store patients terms v head
  pub numbered : Numbered region (λ t. true) store terms
  pub sums_fit : SumsFit head
  pub room : Room n m area
  pub padded : AllPadded v n area
  pub linked : Linked terms 0 moves
  pub kept : Kept terms head.plan.beds places
  pub places_kept : PlacesKept region (left_in head) head.plan.beds places

-- The list grows by the rows of the branch, and the places are kept for the beds of its head again.
pub record Gives (store : List ℕ) (patients : List PatientBucket) (terms : List TableTerm) (v n m : ℕ) (area : List ℕ) (head : Branching) (after after_places : List ℕ) (found : ℕ) : Type 0 where
  pub count : found ≤ m
  pub kept : Kept terms head.plan.beds after_places
  pub long : length after ≡ length area
  pub padded : AllPadded v found after
  pub grown : (r : Region) → Heads r store patients terms v head → Ready row_order m (rows_in v n area) (BranchOf r v head)
      → Grown row_order m (rows_in v n area) (BranchOf r v head) (rows_in v found after)

-- The same of what the walk reads.
abbrev pub AsksWalk : Sources → ℕ → List ℕ → List ℕ → Branching → Type 0
AsksWalk sources n area places head =
    Asks sources.entries.now sources.buckets.now.patients sources.buckets.now.terms sources.moves.now sources.v n sources.m area places head

abbrev pub GivesWalk : Sources → ℕ → List ℕ → Branching → List ℕ → List ℕ → ℕ → Type 0
GivesWalk sources n area head after after_places found =
    Gives sources.entries.now sources.buckets.now.patients sources.buckets.now.terms sources.v n sources.m area head after after_places found
