-- What pricing asks for and gives.
use Rattle.std.specs.Prelude.{◌≤◌, ◌<◌, ◌≡◌, ◌&&◌}
use Rattle.definitions.specs.Basics.{ℕ, Bool, cond, Option, none, some, List, length, take, leb, ltb}
use Rattle.definitions.specs.Syntax.{Region, patient_at}
use Rattle.definitions.specs.Questions.{plan_fits}
use Rattle.definitions.specs.Plans.{bed_of, cost_over, total}
use Rattle.theorems.specs.Accepted.{most_total}
use Rattle.bucket_words.specs.Words.{start_at, member_at, stride_at, beds_at, first_bed_at, bed_end_at}
use Rattle.buckets.specs.Terms.{Fitting, bucket_of, Prepared}
use Rattle.std.specs.Prelude.{None, Some}
use Rattle.std.specs.Prelude.{Option as CodeOption}
use Rattle.bucket_words.specs.declared.PatientBucket.{PatientBucket}
use Rattle.bucket_words.specs.declared.TableTerm.{TableTerm}

-- A cost, as the code has it: none where an entry is forbidden.
abbrev pub Cost : Type 0
Cost = CodeOption ℕ

abbrev pub cost_in : Cost → Option ℕ
cost_in None = none
cost_in (Some n) = some n

-- A sum in one word: from this one on it is no number, since an entry is forbidden.
abbrev pub no_sum : ℕ
no_sum = 1_000_000_000_000

abbrev pub sum_in : ℕ → Option ℕ
sum_in word = cond (ltb word no_sum) (some word) none

-- What is held of a term can be used to find a place for a plan.
pub record Reads (terms : List TableTerm) (k : ℕ) : Type 0 where
  pub few : k < 64
  pub known : (j : ℕ) → j < 4 → member_at terms k j < 32
  pub near : (j : ℕ) → j < 4 → stride_at terms k j ≤ 4096
  pub starts : start_at terms k ≤ 4096

-- The cost of one bucket.
pub record Asks (store : List ℕ) (patients : List PatientBucket) (terms : List TableTerm) (s : ℕ) (beds : List ℕ) : Type 0 where
  pub region : Region
  pub prepared : Prepared region store patients terms
  pub fits : Fitting region beds
  pub known : s < length region.patients
  pub few : s < 32

pub record Gives (store : List ℕ) (patients : List PatientBucket) (terms : List TableTerm) (s : ℕ) (beds : List ℕ) (c : Cost) : Type 0 where
  pub most : (n : ℕ) → cost_in c ≡ some n → n ≤ most_total
  pub cost : (r : Region) → Prepared r store patients terms → Fitting r beds → s < length r.patients → cost_in c ≡ cost_over (bucket_of r s) r beds

-- What all tables cost for a plan, and its total.
pub record AsksAll (store : List ℕ) (patients : List PatientBucket) (terms : List TableTerm) (v : ℕ) (beds : List ℕ) : Type 0 where
  pub region : Region
  pub prepared : Prepared region store patients terms
  pub fits : Fitting region beds
  pub all : v ≡ length region.patients
  pub few : v ≤ 32

abbrev pub GivesTables : List ℕ → List PatientBucket → List TableTerm → ℕ → List ℕ → Cost → Type 0
GivesTables store patients terms v beds c =
    (r : Region) → Prepared r store patients terms → Fitting r beds → v ≡ length r.patients → cost_in c ≡ cost_over r.tables r (take v beds)

abbrev pub GivesAll : List ℕ → List PatientBucket → List TableTerm → ℕ → List ℕ → Cost → Type 0
GivesAll store patients terms v beds c =
    (r : Region) → Prepared r store patients terms → Fitting r beds → v ≡ length r.patients → cost_in c ≡ total r (take v beds)

-- Lies a bed between the patient's first permitted one and their end? That of a plan.
abbrev pub permitted_at : List PatientBucket → ℕ → ℕ → Bool
permitted_at patients s bed = leb (first_bed_at patients s) bed && ltb bed (bed_end_at patients s)

abbrev pub bed_permitted : List PatientBucket → List ℕ → ℕ → Bool
bed_permitted patients beds s = permitted_at patients s (bed_of beds s)

-- Question 14, of a plan's beds.
abbrev pub PlanAsked : List PatientBucket → ℕ → List ℕ → Bool → Type 0
PlanAsked patients v beds answer =
    (r : Region) → ((s : ℕ) → s < v → beds_at patients s ≡ (patient_at r s).bed_count) → v ≡ r.patient_count → v ≡ length r.patients → answer ≡ plan_fits r beds
