-- What listing a region asks for and gives, tree by tree.
use Rattle.std.specs.Prelude.{◌≤◌, ◌<◌, ◌≡◌, ◌∷◌}
use Rattle.definitions.specs.Basics.{ℕ, true, List, [], map, length, replicate, sum, contains}
use Rattle.definitions.specs.Syntax.{Region}
use Rattle.definitions.specs.Plans.{list_of}
use Rattle.ranking.specs.First.{First}
use Rattle.theorems.specs.List.{row_order}
use Rattle.theorems.specs.Accepted.{Accepted}
use Rattle.patient_set.specs.Sets.{members}
use Rattle.partial_rows.specs.Sets.{Patients, Splits}
use Rattle.partial_rows.specs.Rows.{no_beds, RowOf}
use Rattle.partial_rows.specs.Parts.{Apart}
use Rattle.held_region.specs.declared.Region as Code
use Rattle.held_region.specs.Meaning.{said}
use Rattle.bucket_words.specs.Words.{least_at}
use Rattle.kept_places.specs.Moves.{Linked}
use Rattle.buckets.specs.Terms.{Prepared, Numbered}
use Rattle.forest.specs.Trees.{RootNumbers}
use Rattle.row_sums.specs.Sums.{work_part, list_at}
use Rattle.search.specs.Lowest.{Upward}
use Rattle.search.specs.declared.walk.Sources.{Sources}
use Rattle.search.specs.Walks.{AllPadded}
use Rattle.bucket_words.specs.declared.PatientBucket.{PatientBucket}
use Rattle.bucket_words.specs.declared.TableTerm.{TableTerm}
use Rattle.kept_places.specs.declared.Moves.{Moves}

-- The sum of the least numbers of some patients' buckets, each in 32 bits.
pub record LeastSummed (patients : List PatientBucket) (l : List ℕ) (n : ℕ) : Type 0 where
  pub is : n ≡ sum (map (least_at patients) l)
  pub most : n ≤ 137_438_953_472

-- ---- the list of nobody

pub record AsksStart (v : ℕ) (work : List ℕ) : Type 0 where
  pub patients : v ≤ 32
  pub long : 1_152 ≤ length work

pub record GivesStart (v : ℕ) (work after : List ℕ) : Type 0 where
  pub long : length after ≡ length work
  pub row : list_at v 1 0 after ≡ record { cost = 0; beds = replicate v 0 } ∷ []
  pub padded : AllPadded v 1 (work_part 0 after)

-- ---- one more tree

-- The list so far holds the first rows of E, and D is E with the patients of the set, which no table joins to E.
pub record NextTree (r : Region) (D E : Patients) (store : List ℕ) (patients : List PatientBucket) (terms : List TableTerm) (v m n : ℕ) (work : List ℕ) (set : ℕ) : Type 0 where
  pub prepared : Prepared r store patients terms
  pub counted : v ≡ length r.patients
  pub known : (s : ℕ) → contains (members set) s ≡ true → s < length r.patients
  pub upward : Upward r (contains (members set))
  pub split : Splits D E (contains (members set))
  pub apart : Apart r E (contains (members set))
  pub first : First row_order m (RowOf r E (no_beds r)) (list_at v n 0 work)

pub record AsksTree (store : List ℕ) (patients : List PatientBucket) (terms : List TableTerm) (moves : Moves) (v m n : ℕ) (work : List ℕ) (set : ℕ) : Type 0 where
  pub region : Region
  pub numbered : Numbered region (λ t. true) store terms
  pub linked : Linked terms 0 moves
  pub D : Patients
  pub E : Patients
  pub next_tree : NextTree region D E store patients terms v m n work set
  pub few : v ≤ 32
  pub some : 0 < m
  pub wanted : m ≤ 64
  pub held : n ≤ m
  pub long : 1_152 ≤ length work
  pub padded : AllPadded v n (work_part 0 work)

pub record GivesTree (store : List ℕ) (patients : List PatientBucket) (terms : List TableTerm) (v m n : ℕ) (work : List ℕ) (set : ℕ) (after : List ℕ) (k : ℕ) : Type 0 where
  pub count : k ≤ m
  pub long : length after ≡ length work
  pub padded : AllPadded v k (work_part 0 after)
  pub first : (r : Region) (D E : Patients) → NextTree r D E store patients terms v m n work set → First row_order m (RowOf r D (no_beds r)) (list_at v k 0 after)

-- ---- all trees

-- The buckets and roots of a region.
pub record PreparedForest (r : Region) (store : List ℕ) (patients : List PatientBucket) (terms : List TableTerm) (roots : List ℕ) (v m : ℕ) : Type 0 where
  pub prepared : Prepared r store patients terms
  pub root_numbers : RootNumbers r roots
  pub counted : v ≡ length r.patients
  pub wanted : m ≡ r.plans_wanted

pub record AsksForest (store : List ℕ) (patients : List PatientBucket) (terms : List TableTerm) (moves : Moves) (roots : List ℕ) (v m : ℕ) (work : List ℕ) : Type 0 where
  pub region : Region
  pub numbered : Numbered region (λ t. true) store terms
  pub linked : Linked terms 0 moves
  pub forest : PreparedForest region store patients terms roots v m
  pub long : 1_152 ≤ length work

pub record GivesForest (store : List ℕ) (patients : List PatientBucket) (terms : List TableTerm) (roots : List ℕ) (v m : ℕ) (work after : List ℕ) (n : ℕ) : Type 0 where
  pub count : n ≤ m
  pub long : length after ≡ length work
  pub list : (r : Region) → PreparedForest r store patients terms roots v m → list_at v n 0 after ≡ list_of r

-- ---- the same of what the walks read

abbrev pub AsksTreeOf : Sources → ℕ → List ℕ → ℕ → Type 0
AsksTreeOf sources n work set = AsksTree sources.entries.now sources.buckets.now.patients sources.buckets.now.terms sources.moves.now sources.v sources.m n work set

abbrev pub GivesTreeOf : Sources → ℕ → List ℕ → ℕ → List ℕ → ℕ → Type 0
GivesTreeOf sources n work set after k = GivesTree sources.entries.now sources.buckets.now.patients sources.buckets.now.terms sources.v sources.m n work set after k

abbrev pub AsksTrees : Sources → List ℕ → List ℕ → Type 0
AsksTrees sources roots work = AsksForest sources.entries.now sources.buckets.now.patients sources.buckets.now.terms sources.moves.now roots sources.v sources.m work

abbrev pub GivesTrees : Sources → List ℕ → List ℕ → List ℕ → ℕ → Type 0
GivesTrees sources roots work after n = GivesForest sources.entries.now sources.buckets.now.patients sources.buckets.now.terms roots sources.v sources.m work after n

-- ---- the whole region

pub record AsksRegion (h : Code.Region) (store work : List ℕ) : Type 0 where
  pub accepted : Accepted (said h store)
  pub long : 1_152 ≤ length work

pub record GivesRegion (h : Code.Region) (store work after : List ℕ) (n : ℕ) : Type 0 where
  pub count : n ≤ h.m
  pub long : length after ≡ length work
  pub list : list_at h.v n 0 after ≡ list_of (said h store)
