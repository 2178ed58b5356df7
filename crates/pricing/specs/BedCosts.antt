-- What the costs of a patient's beds ask for and give.
use Rattle.std.specs.Prelude.{◌≤◌, set, ◌+◌, ◌*◌, ◌<◌, ◌≡◌}
use Rattle.definitions.specs.Basics.{ℕ, some, List, length, get_or}
use Rattle.definitions.specs.Syntax.{Region}
use Rattle.definitions.specs.Plans.{Plan, cost_over}
use Rattle.theorems.specs.Accepted.{most_total}
use Rattle.theorems.specs.Sums.{plus}
use Rattle.bucket_words.specs.Words.{first_bed_at, bed_end_at}
use Rattle.bucket_words.specs.Kept.{Kept}
use Rattle.buckets.specs.Terms.{Fitting, bucket_of, Prepared}
use Rattle.held_region.specs.Meaning.{said_by}
use Rattle.pricing.specs.Pricing.{sum_in}
use Rattle.bucket_words.specs.declared.PatientBucket.{PatientBucket}
use Rattle.bucket_words.specs.declared.TableTerm.{TableTerm}

-- A sum that is a number is no larger than 64 entries are.
abbrev pub Small : ℕ → Type 0
Small word = (n : ℕ) → sum_in word ≡ some n → n ≤ most_total

-- What one entry adds to a word at most, and a word that 64 entries made.
abbrev pub most_added : ℕ
most_added = 2_000_000_000_000

abbrev pub most_word : ℕ
most_word = 64 * most_added

-- A word with one more entry.
pub record OneMore (sum entry word : ℕ) : Type 0 where
  pub is : sum_in word ≡ plus (sum_in sum) (said_by entry)
  pub most : word ≤ sum + most_added

-- One more entry for each bed from the first to before the end; that for bed 0 stands at a place.
pub record AsksEntries (store : List ℕ) (from first end : ℕ) (sums : List ℕ) : Type 0 where
  pub ordered : first ≤ end
  pub few : end ≤ 16
  pub inside : (bed : ℕ) → first ≤ bed → bed < end → from + bed < 4096
  pub long : length sums ≡ 16
  pub small : (bed : ℕ) → first ≤ bed → bed < end → Small (get_or sums bed 0)
  pub room : (bed : ℕ) → first ≤ bed → bed < end → get_or sums bed 0 ≤ most_word

pub record GivesEntries (store : List ℕ) (from first end : ℕ) (sums after : List ℕ) : Type 0 where
  pub long : length after ≡ 16
  pub each : (bed : ℕ) → first ≤ bed → bed < end → OneMore (get_or sums bed 0) (get_or store (from + bed) 0) (get_or after bed 0)

-- The costs of all permitted beds of a patient, with the places that are kept for a plan.
pub record Asks (store : List ℕ) (patients : List PatientBucket) (terms : List TableTerm) (places : List ℕ) (s first end : ℕ) : Type 0 where
  pub region : Region
  pub beds : Plan
  pub prepared : Prepared region store patients terms
  pub fits : Fitting region beds
  pub kept : Kept terms beds places
  pub known : s < length region.patients
  pub few : s < 32
  pub firsts : first ≡ first_bed_at patients s
  pub ends : end ≡ bed_end_at patients s
  pub long : s < length beds

pub record Gives (store : List ℕ) (patients : List PatientBucket) (terms : List TableTerm) (places : List ℕ) (s first end : ℕ) (sums : List ℕ) : Type 0 where
  pub small : (bed : ℕ) → first ≤ bed → bed < end → Small (get_or sums bed 0)
  pub cost : (r : Region) (beds : Plan) → Prepared r store patients terms → Fitting r beds → Kept terms beds places → s < length r.patients → s < length beds
      → (bed : ℕ) → first ≤ bed → bed < end → sum_in (get_or sums bed 0) ≡ cost_over (bucket_of r s) r (set beds s bed)
